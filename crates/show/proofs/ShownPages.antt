-- The text that was written when the lines of pages were written, page by page.
use Rattle.std.proofs.Common.{◌≡◌, ◌≤◌, ◌<◌, ◌+◌, ℕ, List, [], ◌∷◌, ◌++◌, Option, length, take, drop, codes, refl, sym, ap, subst, ◌∙◌, arith, length-append, append_assoc}
use Rattle.std.specs.Io.KnownBytes.{Appends, Keeps}
use Rattle.std.proofs.KnownBytes.{Appends-trans, Appends-kept}
use Rattle.std.proofs.Math.Seq.{take-append-add}
use Rattle.std.proofs.lemmas.List.{take_all, take-append-le, take-append-drop}
use Rattle.wire.specs.declared.input.Input.{Input}
use Rattle.stores.specs.Records.{Places, AreRecords}
use Rattle.stores.proofs.Fronts.{records-append, records-drop}
use Rattle.stores.specs.declared.node_store.NodeStore.{Ghosts}
use Rattle.report.specs.declared.form.Form.{Form}
use Rattle.report.specs.declared.form.Form.TheVariants.{Lines, Json}
use Rattle.show.specs.Pages.{Reads, Shows, IsBegun, IsWithin}
use Rattle.show.specs.Show.{record_line, record_lines, shown, IsCutOff}
use Rattle.report.specs.ReportLines.{end_line}
use Rattle.show.proofs.Pages.{reads-more}

-- lines after lines
pub lines-append : (form : Form) (n : ℕ) (xs ys : List Input) → record_lines form n (xs ++ ys) ≡ record_lines form n xs ++ record_lines form (n + length xs) ys
lines-append form n [] ys = let same : n ≡ n + 0 = omega arith in ap (λ (k : ℕ). record_lines form k ys) same
lines-append form n (x ∷ xs) ys =
    let same : n + 1 + length xs ≡ n + length (x ∷ xs) = omega arith in
    ap (λ (l : List ℕ). record_line form n x ++ l) (lines-append form (n + 1) xs ys)
    ∙ sym (append_assoc (record_line form n x) (record_lines form (n + 1) xs) (record_lines form (n + 1 + length xs) ys))
    ∙ ap (λ (k : ℕ). (record_line form n x ++ record_lines form (n + 1) xs) ++ record_lines form k ys) same

-- the lines of a page after those of the records before it
page-after : (form : Form) (xs page : List Input) (k : ℕ) (text : List ℕ) → length xs ≡ k → text ≡ record_lines form k page → record_lines form 0 (xs ++ page) ≡ record_lines form 0 xs ++ text
page-after form xs page k text many is =
    let from : 0 + length xs ≡ k = omega (arith, many) in
    lines-append form 0 xs page ∙ ap (λ (n : ℕ). record_lines form 0 xs ++ record_lines form n page) from ∙ ap (λ (l : List ℕ). record_lines form 0 xs ++ l) (sym is)

-- the records that were read, and after them the others
whole : (places : Places) (some all : List Input) → AreRecords (take (length some) places) some → AreRecords places all → AreRecords places (some ++ drop (length some) all)
whole places some all front are =
    subst (λ ps. AreRecords ps (some ++ drop (length some) all)) (take-append-drop (length some) places)
    (records-append _ (take (length some) places) some (drop (length some) places) (drop (length some) all) front (records-drop _ (length some) places all are))

pub end-some : (form : Form) → 0 < length (end_line form)
end-some Lines = omega arith
end-some Json = omega arith

-- the lines are the first part of the text that is shown
shown-after : (form : Form) (some more : List Input) → (rest : List ℕ) × (shown form (some ++ more) ≡ record_lines form 0 some ++ rest) × (0 < length rest)
shown-after form some more =
    let others = record_lines form (0 + length some) more in
    let last = end-some form in
    (others ++ end_line form, ap (λ (l : List ℕ). l ++ end_line form) (lines-append form 0 some more) ∙ append_assoc (record_lines form 0 some) others (end_line form), omega (arith, length-append others (end_line form), last))

-- the text that was begun is cut off, where all places have records
pub cut-off : (form : Form) (count : ℕ) (honest : Type 0) (places : Places) (v w : Option (List ℕ)) (all : List Input) → IsBegun form count honest places v w → (honest → AreRecords places all) → IsCutOff form count honest places v w
cut-off form count honest places v w all b are =
    let more = drop (length b.inputs) all in
    let parts = shown-after form b.inputs more in
    let lines = record_lines form 0 b.inputs in
    let sum : length (shown form (b.inputs ++ more)) ≡ length lines + length parts.0 = ap length parts.1 ∙ length-append lines parts.0 in
    let low : count ≤ length lines = b.within in
    let some : 0 < length parts.0 = parts.2 in
    let front : take count lines ≡ take count (shown form (b.inputs ++ more)) = sym (ap (take count) parts.1 ∙ take-append-le count lines parts.0 low) in
    record {
      inputs = b.inputs ++ more;
      are = λ h. whole places b.inputs all (b.are h) (are h);
      fewer = omega arith;
      written = subst (Appends v w) front b.written;
    }

-- the last line was begun
pub end-cut : (form : Form) (count written : ℕ) (honest : Type 0) (places : Places) (v x w : Option (List ℕ)) (all : List Input) → (honest → AreRecords places all) → written ≡ length (record_lines form 0 all)
    → Appends v x (record_lines form 0 all) → IsWithin count written (end_line form) x w → IsCutOff form count honest places v w
end-cut form count written honest places v x w all are size lines b =
    let text = record_lines form 0 all in
    let sum : length (shown form all) ≡ length text + length (end_line form) = length-append text (end_line form) in
    let at : count ≡ length text + b.more = b.sum ∙ ap (λ n. n + b.more) size in
    let low : b.more < length (end_line form) = b.fewer in
    let front : text ++ take b.more (end_line form) ≡ take count (shown form all) = sym (ap (λ n. take n (shown form all)) at ∙ take-append-add text (end_line form) b.more) in
    record {
      inputs = all;
      are = are;
      fewer = omega arith;
      written = subst (Appends v w) front (Appends-trans v x w text (take b.more (end_line form)) lines b.appended);
    }

module _ {S : Type 0} (g : Ghosts S) where
  abbrev Shown : Form → S → S → (v w : Option (List ℕ)) → ℕ → ℕ → Type 0
  Shown form old new v w records bytes = Shows g form old new v w records bytes

  pub both : (form : Form) (old mid new : S) (v x : Option (List ℕ)) (place written : ℕ) (page : List Input) (so_far : Shown form old mid v x place written) → Reads g mid new place page
      → Reads g old new 0 (so_far.inputs ++ page)
  both form old mid new v x place written page so_far next = reads-more g old mid new so_far.inputs page place so_far.many so_far.reads next

  pub shows-more : (form : Form) (old mid new : S) (v x w : Option (List ℕ)) (place written few : ℕ) (page : List Input) (text : List ℕ) → Shown form old mid v x place written → length page ≡ few → text ≡ record_lines form place page
      → Reads g mid new place page → (bytes : ℕ) → bytes ≡ written + length text → Appends x w text → Shown form old new v w (place + few) bytes
  shows-more form old mid new v x w place written few page text so_far short is next bytes is_sum added =
      let before = record_lines form 0 so_far.inputs in
      let lines_are : record_lines form 0 (so_far.inputs ++ page) ≡ before ++ text = page-after form so_far.inputs page place text so_far.many is in
      let count : length so_far.inputs ≡ place = so_far.many in
      record {
        inputs = so_far.inputs ++ page;
        many = omega (arith, length-append so_far.inputs page);
        reads = both form old mid new v x place written page so_far next;
        size = is_sum ∙ ap (λ n. n + length text) so_far.size ∙ sym (ap length lines_are ∙ length-append before text);
        lines = subst (Appends v w) (sym lines_are) (Appends-trans v x w before text so_far.lines added);
      }

  -- the page was written in part
  pub begun-more : (form : Form) (old mid new : S) (v x w : Option (List ℕ)) (place written : ℕ) (page : List Input) (text : List ℕ) → Shown form old mid v x place written → text ≡ record_lines form place page
      → Reads g mid new place page → (count : ℕ) → IsWithin count written text x w → IsBegun form count (g.is_honest new) (g.content old) v w
  begun-more form old mid new v x w place written page text so_far is next count b =
      let before = record_lines form 0 so_far.inputs in
      let lines_are : record_lines form 0 (so_far.inputs ++ page) ≡ before ++ text = page-after form so_far.inputs page place text so_far.many is in
      let at : count ≡ length before + b.more = b.sum ∙ ap (λ n. n + b.more) so_far.size in
      let all : length (record_lines form 0 (so_far.inputs ++ page)) ≡ length before + length text = ap length lines_are ∙ length-append before text in
      let low : b.more < length text = b.fewer in
      let front : before ++ take b.more text ≡ take count (record_lines form 0 (so_far.inputs ++ page)) = sym (ap (take count) lines_are ∙ ap (λ n. take n (before ++ text)) at ∙ take-append-add before text b.more) in
      record {
        inputs = so_far.inputs ++ page;
        are = (both form old mid new v x place written page so_far next).are;
        within = omega arith;
        written = subst (Appends v w) front (Appends-trans v x w before (take b.more text) so_far.lines b.appended);
      }

  -- nothing was written after the lines so far
  pub begun-here : (form : Form) (old mid new : S) (v x w : Option (List ℕ)) (place written : ℕ) → Shown form old mid v x place written → (g.is_honest new → g.is_honest mid) → Keeps x w → IsBegun form written (g.is_honest new) (g.content old) v w
  begun-here form old mid new v x w place written so_far back kept =
      let lines = record_lines form 0 so_far.inputs in
      let most : written ≡ length lines = so_far.size in
      let all : take written lines ≡ lines = take_all written lines (omega arith) in
      record {
        inputs = so_far.inputs;
        are = λ h. so_far.reads.are (back h);
        within = omega arith;
        written = subst (Appends v w) (sym all) (Appends-kept v x w lines so_far.lines kept);
      }
