use Rattle.std.proofs.lemmas.Result.{IfOk-weaker}
use Rattle.event_reports.proofs.Told.{early_too, scheme_too}
use Rattle.event_reports.proofs.reporting.report_of.Goals as goal

pub returns-clause-ok : goal.returns-clause-ok
returns-clause-ok g c =
    IfOk-weaker c.events_report.result _ _
    (λ s f. (c.in_ok-scheme.scheme, f.0, record { first = c.in-Ok.parts.0.now; lines = c.in-Ok.parts.1.now; begins = c.in-Ok.ensures.ok; scheme_is = c.in_ok-scheme.ensures.ok; events_are = f.1 }, f.2)) c.events_report.ensures.ok

pub returns-clause-err : goal.returns-clause-err
returns-clause-err g c = early_too _ _ _ c.in_ok-scheme.scheme c.events_report.result c.in-Ok.ensures.ok c.in_ok-scheme.ensures.ok c.events_report.ensures.err

pub returns-in_err-scheme-clause-err : goal.returns-in_err-scheme-clause-err
returns-in_err-scheme-clause-err g c = scheme_too _ _ _ c.in_err-scheme.field-0.0 c.from_residual.result c.from_residual.ensures.1 c.in-Ok.ensures.ok c.in_err-scheme.ensures.err
