-- The encoding of an initiator's tables by which a proof distinguishes them.
use Rattle.std.specs.Prelude.{ℕ, refl}
use Rattle.std.specs.Coded.{Coded, code_by, coded×, coded_ℕ}
use Rattle.std.specs.FinMap as map
use Rattle.units.specs.contracts.code.Code as code
use Rattle.units.specs.declared.code.Code.{Code}
use Rattle.status.specs.Id.{id_cmp}
use Rattle.status.specs.contracts.id.TransactionId as id
use Rattle.initiator.specs.Transfers.{InitiatorView}
use Rattle.initiator.specs.contracts.transfer.OutgoingTransfer as transfer
use Rattle.initiator.specs.declared.transfer.OutgoingTransfer.{OutgoingTransfer}

-- as the registry, the number and the map
abbrev pub initiating_code : Coded InitiatorView
initiating_code =
    code_by (Code × (ℕ × map.FinMap id_cmp OutgoingTransfer)) (coded× code.the_row.coded (coded× coded_ℕ (map.code id.the_row.coded transfer.the_row.coded))) (λ i. (i.code, (i.last, i.transfers))) (λ p. record { code = p.0; last = p.1.0; transfers = p.1.1 }) (λ _. refl)
