use Rattle.std.proofs.Common.{Some, sym, ap, ◌∙◌}
use Rattle.std.specs.Prelude.{option_map}
use Rattle.std.proofs.lemmas.Bool.{eqb-true, eq-eqb}
use Rattle.std.proofs.lemmas.Option.{same_Some}
use Rattle.serde_json.specs.Events.{members_len}
use Rattle.serde_json.proofs.Views.{members_len-members_view}
use Rattle.json_fields.proofs.object.has_keys.Goals as goal

pub returns : goal.returns
returns c =
    let keys = ap Some (c.len.ensures.len ∙ sym (members_len-members_view c.in-Some.map.now.entries)) ∙ ap (option_map members_len) c.in-Some.ensures in
    ((λ e. sym keys ∙ ap Some (eqb-true c.len.result c.args.count e)), (λ e. eq-eqb c.len.result c.args.count (same_Some c.len.result c.args.count (keys ∙ e))))
