-- The bytes of a list of bodies.
use Rattle.std.specs.Prelude.{ℕ, List, Vec}
use Rattle.std.specs.declared.alloc.Global.{Global}

abbrev pub items : Vec ℕ Global → List ℕ
items body = body.items
