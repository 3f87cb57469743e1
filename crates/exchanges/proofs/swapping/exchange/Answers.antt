use Rattle.std.proofs.Common.{rules, ◌≡◌, ◌++◌, ◌∷◌, [], ℕ, List, Err, inl, inr, ap, sym, subst, ◌∙◌}
use Rattle.wire.specs.Messages.{message_text}
use Rattle.wire.specs.Replies.{IsReply}
use Rattle.wire.specs.declared.reply.Reply.{Reply}
use Rattle.exchanges.specs.Exchanges.{IsNoReply}
use Rattle.exchanges.specs.Streams.{WritesAll}
use Rattle.exchanges.proofs.swapping.exchange.Goals as goal

pub returns-in-Err-NotReply : goal.returns-in-Err-NotReply
returns-in-Err-NotReply g c =
    let line = c.read_line.new.line.items in
    let text : c.as_slice.result.now ≡ message_text c.args.message.now ++ 10 ∷ [] = c.as_slice.ensures.value ∙ c.in-Ok.ensures.text in
    let none : IsNoReply line = λ (reply : Reply) (h : IsReply line reply).
    c.in-Err-NotReply.ensures.fault (ap Err c.in-Err-NotReply.field-0-is) reply (subst (λ (t : List ℕ). IsReply t reply) (sym c.as_slice-in-Newline.ensures.value) h) in (
      subst (λ (t : List ℕ). WritesAll g.W.Write.contents c.args.writer.now c.write_all.new.self t) text c.in_default-write_all.ensures.wrote,
      inl (line, none, c.in-Newline.ensures.0, c.in-Newline.ensures.1),
    )

pub returns-in-Err : goal.returns-in-Err
returns-in-Err g c = search rules

pub returns-in-Ok-read : goal.returns-in-Ok-read
returns-in-Ok-read g c = search rules

pub returns-in-TooLong : goal.returns-in-TooLong
returns-in-TooLong g c =
    let text : c.as_slice.result.now ≡ message_text c.args.message.now ++ 10 ∷ [] = c.as_slice.ensures.value ∙ c.in-Ok.ensures.text in (
      subst (λ (t : List ℕ). WritesAll g.W.Write.contents c.args.writer.now c.write_all.new.self t) text c.in_default-write_all.ensures.wrote,
      inr (c.read_line.new.line.items, c.in-TooLong.ensures.0.0, c.in-TooLong.ensures.0.1, c.in-TooLong.ensures.1),
    )

pub returns-in-Ended : goal.returns-in-Ended
returns-in-Ended g c =
    let text : c.as_slice.result.now ≡ message_text c.args.message.now ++ 10 ∷ [] = c.as_slice.ensures.value ∙ c.in-Ok.ensures.text in (
      subst (λ (t : List ℕ). WritesAll g.W.Write.contents c.args.writer.now c.write_all.new.self t) text c.in_default-write_all.ensures.wrote,
      (c.read_line.new.line.items, c.in-Ended.ensures.0, c.in-Ended.ensures.1),
    )
