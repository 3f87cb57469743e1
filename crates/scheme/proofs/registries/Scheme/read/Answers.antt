use Rattle.std.proofs.Common.{◌≡◌, List, ℕ, Some, Result, Ok, Err}
use Rattle.std.specs.Prelude.{IfOk}
use Rattle.serde_json.specs.Data.{Data}
use Rattle.serde_json.specs.Read.{read}
use Rattle.serde_json.specs.View.{view}
use Rattle.scheme.specs.Text.{IsSchemeText}
use Rattle.scheme.specs.Reading.{IsSchemeOf}
use Rattle.scheme.specs.declared.members.SchemeFault.{SchemeFault}
use Rattle.scheme.specs.declared.registries.Scheme.{Scheme}
use Rattle.scheme.proofs.OneAnswer.{only_scheme}
use Rattle.scheme.proofs.registries.Scheme.read.Goals as goal

only_read : (bytes : List ℕ) (d : Data) (r : Result Scheme SchemeFault) → read bytes ≡ Some d → IfOk r (IsSchemeOf d) → IfOk r (λ s. (t : Scheme) → IsSchemeText bytes t → t ≡ s)
only_read bytes d (Ok s) reads is = λ t. only_scheme bytes d s t reads is
only_read bytes d (Err e) reads is = tt

pub returns-in-Ok-clause-only : goal.returns-in-Ok-clause-only
returns-in-Ok-clause-only c = only_read c.args.bytes.now (view c.in-Ok.value) c.scheme.result c.in-Ok.ensures.ok.1 c.scheme.ensures.ok
