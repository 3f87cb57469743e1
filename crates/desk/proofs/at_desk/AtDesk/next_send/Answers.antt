use Rattle.std.proofs.Common.{◌≡◌, ℕ, Option, None, Some, ap, refl, sym, subst, ◌∙◌}
use Rattle.desk.specs.Desks.{HasToSend}
use Rattle.node_state.specs.Views.{StateView}
use Rattle.desk.proofs.at_desk.AtDesk.next_send.Goals as goal

no_key : {X : Type 0} (key : ℕ) (found : Option X) → Some key ≡ None → found ≡ None
no_key key found none = absurd (cc (none))

pub returns-in_ok-copy-in-Some : goal.returns-in_ok-copy-in-Some
returns-in_ok-copy-in-Some g c = (
  c.self.inside.stored,
  record { keeps = c.state.ensures.keeps; fault = _; at = c.self.invariant },
  subst (λ (held : StateView). HasToSend held c.args.peer c.args.from (Some (c.in-Some.key, c.in_ok-copy-in-Some.field-0))) c.state.ensures.state (record {
    stopped = λ halted. no_key c.in-Some.key _ (c.in-Some.ensures.stopped halted);
    key = c.in-Some.ensures.key;
    message = c.in-Some.ensures.message ∙ ap Some (sym c.in_ok-copy-in-Some.ensures);
  }),
)

pub returns-in-None : goal.returns-in-None
returns-in-None g c = (
  c.self.inside.stored,
  record { keeps = c.state.ensures.keeps; fault = _; at = c.self.invariant },
  subst (λ (held : StateView). HasToSend held c.args.peer c.args.from None) c.state.ensures.state (record { stopped = λ halted. refl; key = c.in-None.ensures.key; message = tt }),
)
