use Rattle.std.proofs.Common.{◌≡◌, ◌<◌, ◌∙◌, length, ap, sym, arith}
use Rattle.std.proofs.lemmas.Option.{slice_get_within, get_or_from_slice_get}
use Rattle.run.specs.Wiring.{peers_of}
use Rattle.run.proofs.Wired.{all_pushed, part_is, part_more, part_whole, peers_count, pushed_count}
use Rattle.run.proofs.wiring.nodes_to_run.Goals as goal

pub loop-at-preserved : goal.loop-at-preserved
loop-at-preserved g c =
    let kept = c.loop-at.invariant in
    let at = c.loop-at.at in
    let low : at < length c.args.names.now = omega (arith, c.loop-at-test.true, c.loop-at.auto.at-end) in
    let pushed = c.in_ok-push.ensures.items in
    let is_peers = c.peers_at-peers.ensures in
    let within = slice_get_within (peers_of c.args.names.now) at _ is_peers in
    let peers = get_or_from_slice_get (peers_of c.args.names.now) at _ c.peers_at-peers.result.now is_peers in
    let is = c.in_ok-new.ensures in
    record {
      count = pushed_count c.loop-at.nodes.items _ c.push.new.self.items at pushed kept.count;
      names = part_more _ c.loop-at.nodes.items _ c.push.new.self.items c.args.names.now at pushed low kept.names (part_is c.args.names.now at _ _ is.node c.index-names-at.is);
      desks = part_more _ c.loop-at.nodes.items _ c.push.new.self.items c.args.desks.now at pushed (omega (arith, low, c.requires)) kept.desks (part_is c.args.desks.now at _ _ (ap (λ q. q.now) is.desk) c.index-desks-at.is);
      peers = part_more _ c.loop-at.nodes.items _ c.push.new.self.items (peers_of c.args.names.now) at pushed within kept.peers (part_is (peers_of c.args.names.now) at _ _ (ap (λ q. q.now) is.peers) (sym peers));
      network = all_pushed c.loop-at.nodes.items _ c.push.new.self.items (λ n. n.network.now ≡ c.args.network.now) pushed kept.network (ap (λ q. q.now) is.network);
    }

pub returns : goal.returns
returns g c =
    let kept = c.loop-at.invariant in
    let all : c.loop-at.at ≡ length c.args.names.now = omega (arith, c.loop-at-test.false, c.loop-at.auto.at-end) in
    record {
      count = c.loop-at.nodes.ok.0 ∙ kept.count ∙ all;
      names = part_whole _ c.loop-at.nodes.items c.args.names.now c.loop-at.at kept.names (sym all);
      desks = part_whole _ c.loop-at.nodes.items c.args.desks.now c.loop-at.at kept.desks (c.requires ∙ sym all);
      peers = part_whole _ c.loop-at.nodes.items (peers_of c.args.names.now) c.loop-at.at kept.peers (peers_count c.args.names.now ∙ sym all);
      network = kept.network;
    }
