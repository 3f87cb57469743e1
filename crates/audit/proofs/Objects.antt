-- The JSON object of a message that a record waits for, written part by part. The parts are arbitrary texts here, since
-- the rewriting would unfold those of an identifier.
use Rattle.std.proofs.Common.{◌≡◌, ℕ, List, ◌++◌, append_assoc}
use Rattle.std.specs.Prelude.{codes}

pub waits_object : (start new from word node place id : List ℕ)
    → new ≡ start ++ (codes "{\"from\":\"" ++ (from ++ (codes "\",\"line\":\"waits\",\"message\":\"" ++ (word ++ (codes "\",\"node\":\"" ++ (node ++ (codes "\",\"place\":" ++ (place ++ (codes ",\"transaction\":\"" ++ (id ++ codes "\"}\n"))))))))))
    → new ≡ start ++ (codes "{\"from\":\"" ++ from ++ codes "\",\"line\":\"waits\",\"message\":\"" ++ word ++ codes "\",\"node\":\"" ++ node ++ codes "\",\"place\":" ++ place ++ codes ",\"transaction\":\"" ++ id ++ codes "\"}\n")
waits_object start new from word node place id is = simp append_assoc is
