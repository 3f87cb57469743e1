use Rattle.std.proofs.Common.{◌++◌, ap, ◌∙◌, subst, sym}
use Rattle.json_fields.specs.Writing.{data_tokens}
use Rattle.json_fields.proofs.Written.{printed}
use Rattle.scheme.specs.Written.{scheme_data}
use Rattle.units.specs.Text.{IsFreeOf}
use Rattle.scheme.proofs.ReadBack.{text_is_a_line, text_of}
use Rattle.scheme.proofs.registries.Scheme.text.Goals as goal

pub returns-clause-text : goal.returns-clause-text
returns-clause-text c =
    let d = scheme_data c.args.self.now in
    printed d c.write_scheme.new.out c.into_bytes.result.items (c.in_ok-write_scheme.ensures ∙ ap (λ ts. ts ++ data_tokens d) c.in_ok-out.ensures) c.into_bytes.ensures.text

pub returns-clause-writes : goal.returns-clause-writes
returns-clause-writes c =
    let are = c.in_ok-write_scheme.ensures ∙ ap (λ ts. ts ++ data_tokens (scheme_data c.args.self.now)) c.in_ok-out.ensures in
    text_of c.args.self.now c.write_scheme.new.out c.into_bytes.result.items are c.into_bytes.ensures.text c.into_bytes.ensures.reads_back c.into_bytes.ensures.utf8

pub returns-clause-line : goal.returns-clause-line
returns-clause-line c =
    let d = scheme_data c.args.self.now in
    let is = printed d c.write_scheme.new.out c.into_bytes.result.items (c.in_ok-write_scheme.ensures ∙ ap (λ ts. ts ++ data_tokens d) c.in_ok-out.ensures) c.into_bytes.ensures.text in
    subst (IsFreeOf 10) (sym is) (text_is_a_line c.args.self.now)
