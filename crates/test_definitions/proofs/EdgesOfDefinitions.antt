-- The values of single definitions where nothing is known: no registry, no owner, no content, no position and no
-- moment.
use Rattle.std.proofs.Common.{◌≡◌, false, [], ◌∷◌, None, map, refl}
use Rattle.units.specs.declared.block.Kind.TheVariants.{Aau}
use Rattle.wire.specs.declared.input.Input.TheVariants.{Request}
use Rattle.status.specs.declared.status.Status.TheVariants.{Accepted}
use Rattle.protocol.specs.AtRegistry.{holds_some, is_awaited, is_position}
use Rattle.protocol.specs.Checks.{is_owner}
use Rattle.protocol.specs.Claims.{is_received}
use Rattle.protocol.specs.History.{is_eligible, transitions_of}
use Rattle.protocol.specs.Pieces.{Piece}
use Rattle.protocol.specs.Registries.{has_account, takes_kind}
use Rattle.protocol.specs.Verdict.{verdict, history}
use Rattle.protocol.proofs.WorkedScheme.{nz, jp, nz_node, block, unit, nz1, scheme_s}
use Rattle.test_definitions.proofs.ShortNames.{au, orders}

pub no_account_when_unknown : has_account scheme_s au 1 ≡ false
no_account_when_unknown = refl

pub no_kind_when_unknown : takes_kind scheme_s au Aau ≡ false
no_kind_when_unknown = refl

pub not_eligible_when_unknown : is_eligible scheme_s [] au ≡ false
not_eligible_when_unknown = refl

pub nobody_owns : is_owner None nz ≡ false
nobody_owns = refl

pub holds_nothing : holds_some scheme_s nz [] None ≡ false
holds_nothing = refl

abbrev first_piece : Piece
first_piece = record { unit = unit 1; kind = Aau }

-- an accepted transfer without content goes to no account
pub nothing_awaited : is_awaited jp (record { id = nz1; new = Accepted; content = None; moment = 0; messages = [] } ∷ []) 7 ≡ false
nothing_awaited = refl

pub in_no_account : is_position None 1 first_piece ≡ false
in_no_account = refl

-- a transfer without content goes to nobody who could have received it
pub received_by_nobody : is_received (λ n. []) nz1 None ≡ false
received_by_nobody = refl

-- neither order of a registry has a moment
pub no_moments : map (λ x. x.moment) (transitions_of (history scheme_s nz_node (orders 1 jp 7 (block 1 1 ∷ []) ∷ Request nz1 ∷ []))) ≡ 0 ∷ 0 ∷ []
unfolding verdict
no_moments = refl
