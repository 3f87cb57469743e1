-- Lines of rows, one after another.
use Rattle.std.proofs.Common.{◌≡◌, ℕ, List, [], ◌∷◌, ◌++◌, refl, sym, ap, subst, ◌∙◌, append_assoc, codes, decimal}
use Rattle.std.proofs.lemmas.List.{append-nil}
use Rattle.units.specs.Code.{node_text}
use Rattle.wire.specs.Records.{record_text}
use Rattle.report.specs.ReportLines.{status_or_none, status_or_null}
use Rattle.report.specs.declared.form.Form.{Form}
use Rattle.trace.specs.Followed.{HasLines}
use Rattle.trace.specs.Lines.{AreRowLines, IsMomentOf, IsRowLine, IsWordLine, json_line, json_moment}
use Rattle.trace.specs.Rows.{Row}

pub lines_append : (form : Form) (a b : List ℕ) (rs ss : List Row) → AreRowLines form a rs → AreRowLines form b ss → AreRowLines form (a ++ b) (rs ++ ss)
lines_append form a b [] ss none are = subst (λ t. AreRowLines form (t ++ b) ss) (sym none) are
lines_append form a b (r ∷ rs) ss more are = (more.0, more.1 ++ b, ap (λ t. t ++ b) more.2 ∙ append_assoc more.0 more.1 b, more.3, lines_append form more.1 b rs ss more.4 are)

pub one_line : (form : Form) (line : List ℕ) (r : Row) → IsRowLine form line r → AreRowLines form line (r ∷ [])
one_line form line r is = (line, [], sym (append-nil line), is, refl)

-- no line more
pub no_lines : (form : Form) (old : List ℕ) → HasLines form old old []
no_lines form old = ([], refl, sym (append-nil old))

-- the lines of some rows, and then those of others
pub lines_then : (form : Form) (old mid new : List ℕ) (rs ss : List Row) → HasLines form old mid rs → HasLines form mid new ss → HasLines form old new (rs ++ ss)
lines_then form old mid new rs ss first then = (first.0 ++ then.0, lines_append form first.0 then.0 rs ss first.1 then.1, then.2 ∙ ap (λ t. t ++ then.0) first.2 ∙ append_assoc old first.0 then.0)

-- a line that was pushed in parts: what is before the record, the record and the newline
pub row_line : (r : Row) (moment head old one two new : List ℕ) → IsMomentOf moment r.input
    → head ≡ node_text r.node ++ codes " " ++ decimal r.place ++ codes " " ++ moment ++ codes " " ++ status_or_none r.status ++ codes " "
    → one ≡ old ++ head → two ≡ one ++ record_text r.input → new ≡ two ++ codes "\n" → (line : List ℕ) × IsWordLine line r × (new ≡ old ++ line)
row_line r moment head old one two new is begins first goes ends =
    let t = record_text r.input in (
      head ++ t ++ codes "\n",
      record { moment = moment; moment_is = is; spelled = ap (λ x. x ++ t ++ codes "\n") begins },
      ends ∙ ap (λ x. x ++ codes "\n") (goes ∙ ap (λ x. x ++ t) first ∙ append_assoc old head t) ∙ append_assoc old (head ++ t) (codes "\n"),
    )

-- the members of an object with the node and the place in one text
abbrev pub seat_text : Row → List ℕ
seat_text r = codes ",\"node\":\"" ++ node_text r.node ++ codes "\",\"place\":" ++ decimal r.place ++ codes ",\"record\":"

after_five : (x a b c d e : List ℕ) → x ++ (a ++ b ++ c ++ d ++ e) ≡ x ++ a ++ b ++ c ++ d ++ e
after_five x a b c d e =
    sym (append_assoc x (a ++ b ++ c ++ d) e)
    ∙ ap (λ l. l ++ e) (sym (append_assoc x (a ++ b ++ c) d) ∙ ap (λ l. l ++ d) (sym (append_assoc x (a ++ b) c) ∙ ap (λ l. l ++ c) (sym (append_assoc x a b))))

-- an object that was pushed with its members' texts
pub object_line : (r : Row) (moment seat text status old new : List ℕ) → moment ≡ json_moment r.input → seat ≡ seat_text r → text ≡ record_text r.input → status ≡ status_or_null r.status
    → new ≡ old ++ (codes "{\"moment\":" ++ moment ++ seat ++ text ++ codes ",\"status\":" ++ status ++ codes "}\n") → new ≡ old ++ json_line r
object_line r moment seat text status old new moment_is seat_is text_is status_is spelled =
    let start = codes "{\"moment\":" in
    spelled
    ∙ ap (λ x. old ++ (start ++ x ++ seat ++ text ++ codes ",\"status\":" ++ status ++ codes "}\n")) moment_is
    ∙ ap (λ x. old ++ (start ++ json_moment r.input ++ x ++ text ++ codes ",\"status\":" ++ status ++ codes "}\n")) seat_is
    ∙ ap (λ x. old ++ (start ++ json_moment r.input ++ seat_text r ++ x ++ codes ",\"status\":" ++ status ++ codes "}\n")) text_is
    ∙ ap (λ x. old ++ (start ++ json_moment r.input ++ seat_text r ++ record_text r.input ++ codes ",\"status\":" ++ x ++ codes "}\n")) status_is
    ∙ ap (λ x. old ++ (x ++ record_text r.input ++ codes ",\"status\":" ++ status_or_null r.status ++ codes "}\n"))
    (after_five (start ++ json_moment r.input) (codes ",\"node\":\"") (node_text r.node) (codes "\",\"place\":") (decimal r.place) (codes ",\"record\":"))
