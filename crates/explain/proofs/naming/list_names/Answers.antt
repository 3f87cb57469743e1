use Rattle.std.proofs.Common.{◌≡◌, ◌++◌, ◌∙◌, Bor, List, [], ◌∷◌, ap, map, refl, string_bytes, ℕ}
use Rattle.std.proofs.lemmas.List.{append-nil}
use Rattle.std.specs.List.{join_by, join_with_byte}
use Rattle.explain.specs.Topics.{pairs, singles}
use Rattle.explain.proofs.naming.list_names.Goals as goal

abbrev texts : List (Bor (List ℕ)) → List (List ℕ)
texts parts = map (λ part. part.now) parts

joined : (parts : List (Bor (List ℕ))) → join_by (λ part. part.now) (45 ∷ []) parts ≡ join_with_byte 45 (texts parts)
joined [] = refl
joined (part ∷ []) = append-nil part.now
joined (part ∷ second ∷ parts) = ap (λ rest. part.now ++ (45 ∷ rest)) (joined (second ∷ parts))

pub returns : goal.returns
returns c =
    let parts : List (Bor (List ℕ)) = c.args.parts.now in
    let whole : string_bytes c.in_ok-join.field-0 ≡ join_with_byte 45 (texts parts) = c.in_ok-join.ensures.ok ∙ joined parts in
    let one : map string_bytes c.push.new.self.items ≡ join_with_byte 45 (texts parts) ∷ [] =
    ap (map string_bytes) (c.in_ok-push.ensures.items ∙ ap (λ names. names ++ c.in_ok-join.field-0 ∷ []) c.new-names.ensures.items)
    ∙ ap (λ name. name ∷ []) whole in
    c.in_ok-add_singles.ensures
    ∙ ap (λ names. names ++ singles (texts parts)) (c.in_ok-add_pairs.ensures ∙ ap (λ names. names ++ pairs (texts parts)) one)
