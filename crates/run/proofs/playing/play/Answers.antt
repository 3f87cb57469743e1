use Rattle.std.proofs.Common.{◌<◌, length, arith, sym}
use Rattle.std.proofs.Math.ListN.{set}
use Rattle.std.proofs.lemmas.List.{get_or-set_same, length-set}
use Rattle.std.proofs.lemmas.Option.{slice_get-get_or, slice_get_read}
use Rattle.serving.proofs.HeardLines.{grow_at}
use Rattle.serving.proofs.Ordering.{orders_asked, orders_impossible}
use Rattle.run.proofs.playing.play.Goals as goal

pub returns-in-Some-clause-heard : goal.returns-in-Some-clause-heard
returns-in-Some-clause-heard g c =
    let index = c.in-Some.ensures.some in
    let low : c.in-Some.at < length c.args.seats.now = omega (arith, index.1, c.requires.seats) in (
      index.2,
      record {
        at = c.in-Some.at;
        seat = c.ask_copy.new.seat;
        index = index.0;
        is =
            slice_get_read (set c.args.seats.now c.in-Some.at c.ask_copy.new.seat) (length c.args.seats.now) c.in-Some.at c.ask_copy.new.seat (sym (length-set c.args.seats.now c.in-Some.at c.ask_copy.new.seat)) low
            (sym (get_or-set_same c.args.seats.now c.in-Some.at c.ask_copy.new.seat c.ask_copy.new.seat low));
        heard = c.ask_copy.ensures.heard;
      },
    )

pub returns-in-Some-clause-grow : goal.returns-in-Some-clause-grow
returns-in-Some-clause-grow g c =
    let index = c.in-Some.ensures.some in
    let low : c.in-Some.at < length c.args.seats.now = omega (arith, index.1, c.requires.seats) in
    grow_at c.args.seats.now c.in-Some.at _ c.ask_copy.new.seat (slice_get-get_or c.args.seats.now c.in-Some.at _ low) c.ask_copy.ensures.grows

pub returns-in-Some-clause-orders : goal.returns-in-Some-clause-orders
returns-in-Some-clause-orders g c =
    let index = c.in-Some.ensures.some in
    let low : c.in-Some.at < length c.args.seats.now = omega (arith, index.1, c.requires.seats) in
    λ lines answers len have. orders_asked c.args.scheme.now lines answers c.args.seats.now c.args.line.now len have c.ask_copy.result c.in-Some.at _ c.ask_copy.new.seat
    (slice_get-get_or c.args.seats.now c.in-Some.at _ low) index.0 index.2 c.ask_copy.ensures.adds c.ask_copy.ensures.notes

pub returns-in-None-clause-orders : goal.returns-in-None-clause-orders
returns-in-None-clause-orders g c = λ lines answers len have. orders_impossible c.args.scheme.now lines answers c.args.seats.now c.args.line.now len have
