-- JSON objects that are written part by part. The parts are arbitrary texts here, since the rewriting would unfold
-- those of an identifier or a block.
use Rattle.std.proofs.Common.{◌≡◌, ℕ, List, ◌++◌, append_assoc}
use Rattle.std.specs.Prelude.{codes}

pub due_object : (start new id block : List ℕ) → new ≡ start ++ (codes "{\"line\":\"due\",\"transaction\":\"" ++ (id ++ (codes "\",\"units\":\"" ++ (block ++ codes "\"}\n"))))
    → new ≡ start ++ (codes "{\"line\":\"due\",\"transaction\":\"" ++ id ++ codes "\",\"units\":\"" ++ block ++ codes "\"}\n")
due_object start new id block is = simp append_assoc is

pub holding_object : (start new account code transaction block : List ℕ)
    → new ≡ start ++ (codes "{\"account\":" ++ (account ++ (codes ",\"line\":\"holds\",\"registry\":\"" ++ (code ++ (codes "\",\"transaction\":" ++ (transaction ++ (codes ",\"units\":\"" ++ (block ++ codes "\"}\n"))))))))
    → new ≡ start ++ (codes "{\"account\":" ++ account ++ codes ",\"line\":\"holds\",\"registry\":\"" ++ code ++ codes "\",\"transaction\":" ++ transaction ++ codes ",\"units\":\"" ++ block ++ codes "\"}\n")
holding_object start new account code transaction block is = simp append_assoc is
