-- A reader or a writer, and how its calls went, as contracts see them.
use Rattle.streams.specs.declared.calls.Calls.{Calls}

pub record CountedView (T : Type 0) : Type 0 where
  pub inner : T
  pub calls : Calls
