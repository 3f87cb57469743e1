-- The parts of a message determine it.
use Rattle.std.proofs.Common.{◌≡◌, ℕ, ◌+◌, ◌<◌, ◌^◌, List, [], ◌∷◌, Option, Some, None, refl, sym, ap, subst, arith}
use Rattle.std.specs.Prelude.{IfSome, IfNone, codes}
use Rattle.std.specs.List.{AllByRecursion}
use Rattle.std.specs.Option.{ok_or}
use Rattle.serde_json.specs.Data.{Data, string}
use Rattle.json_fields.specs.Fields.{HasAt, text_at}
use Rattle.json_fields.specs.Found.{Finds}
use Rattle.json_fields.proofs.OneAtKey.{at_once, text_once, whole_once, string_at}
use Rattle.json_fields.specs.declared.fault.TextFault.TheVariants.{Shape}
use Rattle.units.specs.Block.{raw_text, IsRawText}
use Rattle.units.specs.Code.{code_text}
use Rattle.units.specs.Facts.{IsRange}
use Rattle.units.specs.declared.block.Block.{Block}
use Rattle.units.specs.declared.block.RawBlock.{RawBlock}
use Rattle.units.specs.declared.code.Code.{Code}
use Rattle.units.proofs.OneText.{code_text_same, raw_same}
use Rattle.status.specs.Content.{Content, IsContent, raws}
use Rattle.status.specs.Status.{status_text}
use Rattle.wire.specs.Codes.{Ascends}
use Rattle.wire.specs.NotifiedStatuses.{notified_status, notified_codes, IsNotified}
use Rattle.wire.specs.Objects.{whole, whole_items, numbers, block_items, blocks}
use Rattle.wire.specs.Reading.{HasContent, Says, HasNotified}
use Rattle.wire.specs.declared.notified.NotifiedStatus.{NotifiedStatus}
use Rattle.wire.specs.declared.notified.NotifiedStatus.TheVariants.{Accepted, Rejected, Terminated, Cancelled, Completed}
use Rattle.wire.proofs.Items.{AreShort}

-- ---- contents

-- blocks with proofs that they are in range
abbrev pub with_proofs : (rs : List RawBlock) → AllByRecursion (λ b. IsRange b.first b.last) rs → List Block
with_proofs [] h = []
with_proofs (r ∷ rs) h = record { raw = r; in_range = h.0 } ∷ with_proofs rs h.1

pub raws-with_proofs : (rs : List RawBlock) (h : AllByRecursion (λ b. IsRange b.first b.last) rs) → raws (with_proofs rs h) ≡ rs
raws-with_proofs [] h = refl
raws-with_proofs (r ∷ rs) h = ap (λ xs. r ∷ xs) (raws-with_proofs rs h.1)

-- the blocks of a content are blocks
pub own_blocks : (d : Data) (c : Content) → HasContent d c → (bs : List Block) × HasAt d (codes "units") (blocks (raws bs))
own_blocks d c h = (with_proofs c.units h.4.in_range, subst (λ rs. HasAt d (codes "units") (blocks rs)) (sym (raws-with_proofs c.units h.4.in_range)) h.3)

pub short_blocks : (rs : List RawBlock) → AllByRecursion (λ b. IsRange b.first b.last) rs → AreShort rs
short_blocks [] h = tt
short_blocks (r ∷ rs) h = ((omega (arith, h.0.1, h.0.2), omega (arith, h.0.2)), short_blocks rs h.1)

items_once : (rs qs : List RawBlock) → AreShort rs → AreShort qs → block_items rs ≡ block_items qs → rs ≡ qs
items_once [] [] h k e = refl
items_once [] (q ∷ qs) h k e = absurd (cc)
items_once (r ∷ rs) [] h k e = absurd (cc)
items_once (r ∷ rs) (q ∷ qs) h k e =
    let texts : raw_text r ≡ raw_text q = cc (e) in
    let rest : block_items rs ≡ block_items qs = cc (e) in
    let own : IsRawText (raw_text r) r = record { spelled = refl; first = h.0.0; last = h.0.1 } in
    let other : IsRawText (raw_text r) q = record { spelled = texts; first = k.0.0; last = k.0.1 } in
    let here = raw_same (raw_text r) r q own other in
    let more = items_once rs qs h.1 k.1 rest in
    cc (here, more)

pub blocks_once : (d : Data) (key : List ℕ) (rs qs : List RawBlock) → AreShort rs → AreShort qs → HasAt d key (blocks rs) → HasAt d key (blocks qs) → rs ≡ qs
blocks_once d key rs qs h k p q = let e = at_once d key (blocks rs) (blocks qs) p q in items_once rs qs h k (cc (e))

-- the content made of parts in the object
pub content_found : (d : Data) (account to_account : ℕ) (acquirer : Code) (units : List RawBlock) (made : Option Content) → HasAt d (codes "account") (whole account) → HasAt d (codes "to_account") (whole to_account)
    → HasAt d (codes "to_registry") (string (code_text acquirer)) → HasAt d (codes "units") (blocks units) → AllByRecursion (λ b. IsRange b.first b.last) units
    → IfSome made (λ c. c ≡ record { account = account; acquirer = acquirer; to_account = to_account; units = units })
    → IfSome made (λ c. IsContent c)
    → IfNone made (IsContent (record { account = account; acquirer = acquirer; to_account = to_account; units = units }) → ⊥) → Finds (HasContent d) (ok_or made Shape)
content_found d account to_account acquirer units (Some c) a t r u range some valid none = (
  subst (λ n. HasAt d (codes "account") (whole n)) (sym (ap (λ (x : Content). x.account) some)) a,
  subst (λ n. HasAt d (codes "to_account") (whole n)) (sym (ap (λ (x : Content). x.to_account) some)) t,
  subst (λ n. HasAt d (codes "to_registry") (string (code_text n))) (sym (ap (λ (x : Content). x.acquirer) some)) r,
  subst (λ n. HasAt d (codes "units") (blocks n)) (sym (ap (λ (x : Content). x.units) some)) u,
  valid,
)
content_found d account to_account acquirer units None a t r u range some valid none = λ c h.
    let accounts : c.account ≡ account = whole_once d (codes "account") c.account account h.0 a in
    let others : c.to_account ≡ to_account = whole_once d (codes "to_account") c.to_account to_account h.1 t in
    let acquirers : c.acquirer ≡ acquirer = code_text_same c.acquirer acquirer (text_once d (codes "to_registry") (code_text c.acquirer) (code_text acquirer) h.2 r) in
    let same : c ≡ record { account = account; acquirer = acquirer; to_account = to_account; units = c.units } = λ i. record { account = accounts i; acquirer = acquirers i; to_account = others i; units = c.units } in
    let valid = subst IsContent same h.4 in
    let lists : c.units ≡ units = blocks_once d (codes "units") c.units units (short_blocks c.units valid.in_range) (short_blocks units range) h.3 u in
    none (subst (λ us. IsContent (record { account = account; acquirer = acquirer; to_account = to_account; units = us })) lists valid)

-- ---- notified statuses

small_codes : (first last : ℕ) (cs : List ℕ) → last < 2 ^ 16 → Ascends first last cs → AllByRecursion (λ c. c < 2 ^ 16) cs
small_codes first last [] lt a = tt
small_codes first last (c ∷ cs) lt a = (omega (arith, lt, a.0.1), small_codes (c + 1) last cs lt a.1)

pub own_codes : (n : NotifiedStatus) → IsNotified n → AllByRecursion (λ c. c < 2 ^ 16) (notified_codes n)
own_codes Accepted is = tt
own_codes (Rejected cs) is = small_codes 301 304 cs (omega arith) is.1
own_codes (Terminated cs) is = small_codes 201 208 cs (omega arith) is.1
own_codes Cancelled is = tt
own_codes Completed is = tt

items_same : (ms ns : List ℕ) → whole_items ms ≡ whole_items ns → ms ≡ ns
items_same [] [] e = refl
items_same [] (n ∷ ns) e = absurd (cc)
items_same (m ∷ ms) [] e = absurd (cc)
items_same (m ∷ ms) (n ∷ ns) e = let here : m ≡ n = cc (e) in let rest : whole_items ms ≡ whole_items ns = cc (e) in let more = items_same ms ns rest in cc (here, more)

pub numbers_once : (d : Data) (key : List ℕ) (ms ns : List ℕ) → HasAt d key (numbers ms) → HasAt d key (numbers ns) → ms ≡ ns
numbers_once d key ms ns p q = let e = at_once d key (numbers ms) (numbers ns) p q in items_same ms ns (cc (e))

pub notified_found : (d : Data) (text told : List ℕ) (o : Option NotifiedStatus) → Some text ≡ text_at (codes "status") d → HasAt d (codes "codes") (numbers told) → IfSome o (λ n. Says text told n)
    → IfNone o ((n : NotifiedStatus) → Says text told n → ⊥) → Finds (HasNotified d) (ok_or o Shape)
notified_found d text told (Some n) at has some none =
    (subst (λ cs. HasAt d (codes "codes") (numbers cs)) some.1 has, subst (λ s. HasAt d (codes "status") (string s)) some.0 (string_at d (codes "status") text at), some.2)
notified_found d text told None at has some none = λ n h.
    none n (text_once d (codes "status") text (status_text (notified_status n)) (string_at d (codes "status") text at) h.1, numbers_once d (codes "codes") told (notified_codes n) has h.0, h.2)
