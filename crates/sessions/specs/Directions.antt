-- The two directions of a connection, which was accepted or made.
use Rattle.sessions.specs.declared.direction.Direction.{Direction}
use Rattle.sessions.specs.declared.direction.Direction.TheVariants.{Accepted, Made}

-- a fact about a direction, by how its connection came about
abbrev pub by_either : {A M T : Type 0} → (A → T) → (M → T) → Direction A M → T
by_either of_accepted of_made (Accepted inner) = of_accepted inner
by_either of_accepted of_made (Made inner) = of_made inner

-- both are directions of connections that were made, and have that property
abbrev pub AreMade : {A B R W : Type 0} → (R → W → Type 0) → Direction A R → Direction B W → Type 0
AreMade Lead (Made reader) (Made writer) = Lead reader writer
AreMade Lead (Accepted reader) writer = ⊥
AreMade Lead (Made reader) (Accepted writer) = ⊥
