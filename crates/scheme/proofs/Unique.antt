-- A value writes one list of registries at most.
use Rattle.std.proofs.Common.{codes, ◌≡◌, ℕ, List, sym, subst, ◌∙◌}
use Rattle.units.specs.Code.{code_text}
use Rattle.units.specs.Block.{kind_text, IsRawText}
use Rattle.units.specs.declared.code.Code.{Code}
use Rattle.units.specs.declared.block.Block.{Block}
use Rattle.units.specs.declared.block.Kind.{Kind}
use Rattle.units.proofs.OneText.{block_same, kind_same, code_text_same, raw_same}
use Rattle.serde_json.specs.Data.{Data, unsigned, boolean, number, string}
use Rattle.scheme.specs.Grammar.{IsAccount, IsKind, IsBlock, IsAllotment, IsMember, IsWritten}
use Rattle.scheme.specs.declared.members.Allotment.{Allotment}
use Rattle.scheme.specs.declared.members.SchemeRegistry.{SchemeRegistry}
use Rattle.json_fields.specs.Fields.{HasAt, EachIs, HasList}
use Rattle.json_fields.proofs.Lists.{each_one}
use Rattle.json_fields.proofs.OneAtKey.{at_once, text_once, whole_once, array_once}

-- ---- each item writes one value

pub account_one : (d : Data) (m n : ℕ) → IsAccount d m → IsAccount d n → m ≡ n
account_one d m n p q = let e : number (unsigned m) ≡ number (unsigned n) = sym p.0 ∙ q.0 in cc

pub kind_one : (d : Data) (a b : Kind) → IsKind d a → IsKind d b → a ≡ b
kind_one d a b p q = let e : string (kind_text a) ≡ string (kind_text b) = sym p ∙ q in let t : kind_text a ≡ kind_text b = cc (e) in kind_same a b t

pub block_one : (d : Data) (a b : Block) → IsBlock d a → IsBlock d b → a ≡ b
block_one d a b p q =
    let e : string p.0 ≡ string q.0 = sym p.1 ∙ q.1 in
    let t : q.0 ≡ p.0 = cc (e) in
    block_same a b (raw_same p.0 a.raw b.raw p.2 (subst (λ s. IsRawText s b.raw) t q.2))

-- ---- an object writes one value

pub list_one : {X : Type 0} (R : Data → X → Type 0) → ((d : Data) (x y : X) → R d x → R d y → x ≡ y) → (d : Data) (key : List ℕ) (xs ys : List X) → HasList R d key xs → HasList R d key ys → xs ≡ ys
list_one R one d key xs ys p q =
    each_one R one p.0 xs ys p.2 (subst (λ ds. EachIs R ds ys) (array_once d key q.0 p.0 q.1 p.1) q.2)

pub allotment_one : (d : Data) (a b : Allotment) → IsAllotment d a → IsAllotment d b → a ≡ b
allotment_one d a b p q =
    let account : a.account ≡ b.account = whole_once d (codes "account") a.account b.account p.account q.account in
    let units : a.units ≡ b.units = list_one IsBlock block_one d (codes "units") a.units b.units p.units q.units in
    λ i. record { account = account i; units = units i }

pub code_one : (d : Data) (a b : Code) → HasAt d (codes "code") (string (code_text a)) → HasAt d (codes "code") (string (code_text b)) → a ≡ b
code_one d a b p q = code_text_same a b (text_once d (codes "code") (code_text a) (code_text b) p q)

pub member_one : (d : Data) (m n : SchemeRegistry) → IsMember d m → IsMember d n → m ≡ n
member_one d m n p q =
    let code : m.code ≡ n.code = code_one d m.code n.code p.code q.code in
    let truth : boolean m.eligible ≡ boolean n.eligible = at_once d (codes "eligible") _ _ p.eligible q.eligible in
    let eligible : m.eligible ≡ n.eligible = cc (truth) in
    let accounts : m.accounts ≡ n.accounts = list_one IsAccount account_one d (codes "accounts") m.accounts n.accounts p.accounts q.accounts in
    let allotted : m.allotted ≡ n.allotted = list_one IsAllotment allotment_one d (codes "allotted") m.allotted n.allotted p.allotted q.allotted in
    let kinds : m.kinds ≡ n.kinds = list_one IsKind kind_one d (codes "kinds") m.kinds n.kinds p.kinds q.kinds in
    λ i. record { code = code i; accounts = accounts i; allotted = allotted i; eligible = eligible i; kinds = kinds i }

-- the number of records and the registries that a value writes
pub records_one : (d : Data) (m n : ℕ) (ms ns : List SchemeRegistry) → IsWritten d m ms → IsWritten d n ns → m ≡ n
records_one d m n ms ns p q = whole_once d (codes "records") m n p.records_at q.records_at

pub members_one : (d : Data) (m n : ℕ) (ms ns : List SchemeRegistry) → IsWritten d m ms → IsWritten d n ns → ms ≡ ns
members_one d m n ms ns p q = list_one IsMember member_one d (codes "registries") ms ns p.registries q.registries
