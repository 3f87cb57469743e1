-- Which inputs a thread may have recorded: moments, clocks and connections as values.
use Rattle.std.proofs.Common.{◌≡◌, ◌≢◌, ℕ, [], ◌∷◌, Option, true, refl, ap, arith, lit<}
use Rattle.units.specs.declared.code.Node.{Node}
use Rattle.units.specs.declared.code.Node.TheVariants.{Itl}
use Rattle.protocol.specs.Moment.{Moment}
use Rattle.wire.specs.declared.input.Input.{Input}
use Rattle.wire.specs.declared.input.Input.TheVariants as input
use Rattle.wire.specs.declared.message.Message.{Message}
use Rattle.wire.specs.declared.notified.NotifiedStatus.TheVariants as notified
use Rattle.protocol.proofs.WorkedScheme.{nz, jp, nz_node, block, nz1, first_of_may, number, notification}
use Rattle.sessions.specs.Threads.{IsOfThread}

abbrev second : Moment
second = record { seconds = 1335830401; in_range = lit< tt }

abbrev message : Moment → Input
message moment = input.Received (notification Itl nz_node nz1 notified.Accepted) moment

-- the clock gave the first of May, and nothing else
abbrev told : Moment → Type 0
told moment = moment ≡ first_of_may

later : second ≢ first_of_may
later e = let same : ◌≡◌ {A = ℕ} 1335830401 1335830400 = ap (λ (m : Moment). m.seconds) e in omega arith

module _ (to_send : Node → ℕ → Option (ℕ × Message) → Type 0) where
  -- no peer received anything
  abbrev alone : Input → Type 0
  alone = IsOfThread to_send (λ (n : Node) (m : Message). ⊥) told

  pub at_a_moment_that_was_told : alone (message first_of_may)
  at_a_moment_that_was_told = refl

  pub not_at_another : alone (message second) → ⊥
  not_at_another = later

  -- a message that reached no peer is not acknowledged
  pub not_unless_received : alone (input.Ack (number 0 (lit< tt))) → ⊥
  not_unless_received is = is.replied

  pub no_transfer : alone (input.Propose (record { account = 1; acquirer = jp; to_account = 7; units = block 1 1 ∷ [] })) → ⊥
  no_transfer is = is

  pub no_request : alone (input.Request nz1) → ⊥
  no_request is = is

  pub no_opening : alone (input.OpenAccount (number 2 (lit< tt))) → ⊥
  no_opening is = is

  pub no_closing : alone (input.CloseAccount (number 2 (lit< tt))) → ⊥
  no_closing is = is

  pub no_clean_up : alone (input.CleanUp first_of_may) → ⊥
  no_clean_up is = is

  pub no_eligibility : alone (input.Eligible nz true) → ⊥
  no_eligibility is = is

-- the node had nothing to send
module _ (got : Node → Message → Type 0) where
  abbrev unknown : Input → Type 0
  unknown = IsOfThread (λ (n : Node) (from : ℕ) (found : Option (ℕ × Message)). ⊥) got told

  pub not_unless_stored : unknown (input.Ack (number 0 (lit< tt))) → ⊥
  not_unless_stored is = is.sent
