-- The text of a scheme: compact JSON, keys in byte order, registries in byte order of their codes.
use Rattle.std.specs.Prelude.{ℕ, List, [], ◌∷◌, codes}
use Rattle.serde_json.specs.Data.{Data, boolean, string}
use Rattle.serde_json.specs.Written.{compact_text}
use Rattle.json_fields.specs.Objects.{Field, array_with, object_of, whole}
use Rattle.units.specs.Block.{kind_text, raw_text}
use Rattle.units.specs.Code.{code_text}
use Rattle.units.specs.declared.block.Block.{Block}
use Rattle.units.specs.declared.block.Kind.{Kind}
use Rattle.scheme.specs.declared.members.Allotment.{Allotment}
use Rattle.scheme.specs.declared.members.SchemeRegistry.{SchemeRegistry}
use Rattle.scheme.specs.declared.registries.Scheme.{Scheme}

abbrev pub block_data : Block → Data
block_data b = string (raw_text b.raw)

abbrev pub kind_data : Kind → Data
kind_data k = string (kind_text k)

abbrev pub allotment_fields : Allotment → List Field
allotment_fields a = (codes "account", whole a.account) ∷ (codes "units", array_with block_data a.units) ∷ []

abbrev pub allotment_data : Allotment → Data
allotment_data a = object_of (allotment_fields a)

abbrev pub member_fields : SchemeRegistry → List Field
member_fields m =
    (codes "accounts", array_with whole m.accounts) ∷ (codes "allotted", array_with allotment_data m.allotted) ∷ (codes "code", string (code_text m.code))
    ∷ (codes "eligible", boolean m.eligible) ∷ (codes "kinds", array_with kind_data m.kinds) ∷ []

abbrev pub member_data : SchemeRegistry → Data
member_data m = object_of (member_fields m)

abbrev pub scheme_fields : Scheme → List Field
scheme_fields s = (codes "records", whole s.records) ∷ (codes "registries", array_with member_data s.members) ∷ []

abbrev pub scheme_data : Scheme → Data
scheme_data s = object_of (scheme_fields s)

abbrev pub scheme_text : Scheme → List ℕ
scheme_text s = compact_text (scheme_data s)
