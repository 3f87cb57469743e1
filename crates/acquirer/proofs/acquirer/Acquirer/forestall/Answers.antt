use Rattle.std.proofs.Common.{Some, None, sym, ap, ◌∙◌}
use Rattle.std.specs.Map.{lookup}
use Rattle.std.specs.Ordering.{is_eq}
use Rattle.std.specs.Prelude.{Result, Ok, Err, OnErr, OnOk}
use Rattle.status.specs.Id.{same_id, id_cmp}
use Rattle.status.specs.declared.status.Status.TheVariants as words
use Rattle.acquirer.proofs.Tables.{same_by_id, seen, changed_at}
use Rattle.acquirer.proofs.acquirer.Acquirer.forestall.Goals as goal

pub put-requires-clause-absent : goal.put-requires-clause-absent
put-requires-clause-absent c = sym (seen c.self.inside.transfers c.args.self.now.transfers (ap (λ a. a.transfers) c.self.view_is) c.args.id) ∙ c.requires

on_ok : {X E : Type 0} (r : Result X E) (P Q : Type 0) → OnOk r P → (P → Q) → OnOk r Q
on_ok (Ok x) P Q p f = f p
on_ok (Err e) P Q p f = tt

on_err : {X E : Type 0} (r : Result X E) (P Q : Type 0) → OnErr r P → (P → Q) → OnErr r Q
on_err (Ok x) P Q p f = tt
on_err (Err e) P Q p f = f p

pub returns-clause-ok : goal.returns-clause-ok
returns-clause-ok c = on_ok c.put.result _ _ c.put.ensures.ok (λ h. (ap (λ a. a.code) c.self.view_is, λ t. changed_at (λ _. Some (record { status = words.Cancelled; content = None })) (same_id c.args.id t) c.put.new.transfers c.self.inside.transfers c.args.self.now.transfers t (ap (λ a. a.transfers) c.self.view_is) (h t)))

pub returns-clause-err : goal.returns-clause-err
returns-clause-err c = on_err c.put.result _ _ c.put.ensures.err (λ h. ap (λ m. record { code = c.self.inside.code; transfers = m }) (same_by_id c.put.new.transfers c.self.inside.transfers (λ t. ap (lookup (λ k. is_eq (id_cmp t k))) h)) ∙ c.self.view_is)
