-- The codes of findings, where there are any.
use Rattle.std.specs.Prelude.{ℕ, List, [], Option}
use Rattle.std.specs.Option.{option_map_or}

abbrev pub codes_in : Option (List ℕ) → List ℕ
codes_in found = option_map_or (λ codes. codes) found []
