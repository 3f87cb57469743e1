-- The encoding of an acquirer's table by which a proof distinguishes it.
use Rattle.std.specs.Prelude.{refl}
use Rattle.std.specs.Coded.{Coded, code_by, coded×}
use Rattle.std.specs.FinMap as map
use Rattle.units.specs.contracts.code.Code as code
use Rattle.units.specs.declared.code.Code.{Code}
use Rattle.status.specs.Id.{id_cmp}
use Rattle.status.specs.contracts.id.TransactionId as id
use Rattle.acquirer.specs.Transfers.{AcquirerView}
use Rattle.acquirer.specs.contracts.transfer.IncomingTransfer as transfer
use Rattle.acquirer.specs.declared.transfer.IncomingTransfer.{IncomingTransfer}

-- as the registry and the map
abbrev pub acquiring_code : Coded AcquirerView
acquiring_code =
    code_by (Code × map.FinMap id_cmp IncomingTransfer) (coded× code.the_row.coded (map.code id.the_row.coded transfer.the_row.coded)) (λ a. (a.code, a.transfers)) (λ p. record { code = p.0; transfers = p.1 }) (λ _. refl)
