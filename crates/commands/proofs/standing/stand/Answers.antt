use Rattle.std.proofs.Common.{◌≡◌, ◌∙◌, ℕ, List, ap, subst}
use denote.Ref.{Bor}
use Rattle.std.specs.Io.KnownBytes.{Appends}
use Rattle.units.specs.declared.code.Node.{Node}
use Rattle.node_state.specs.Views.{StateView}
use Rattle.ended_nodes.proofs.Reporting.{on_ok}
use Rattle.node_setup.specs.Sums.{sum_text}
use Rattle.commands.specs.Standing.{IsExported, Lives, LoadsNode, sum_line}
use Rattle.commands.proofs.standing.stand.Goals as goal

pub returns : goal.returns
returns g c =
    let archive = c.args.archive.now in
    let scheme = c.args.scheme.now in
    let stored = c.in_ok-stored.stored in
    let folder = c.as_str-folder.ensures.value in
    let sum = c.as_str.ensures.value ∙ c.in_ok-sum.ensures in
    let told = c.as_str-2.ensures.value ∙ c.in_ok-sum.ensures in
    let loads : LoadsNode g.A.Archive archive g.A.Store.NodeStore c.as_str-folder.result.now scheme c.args.setup.node c.as_str.result.now stored = c.in_ok-stored.ensures in
    let node : stored.state.node ≡ c.args.setup.node = ap (λ (h : StateView). h.node) loads.state in
    let v = g.W.Write.contents c.args.writer.now in
    let middle = g.W.Write.contents c.write_sum.new.writer in
    on_ok c.close_store.result
    (λ closed. record {
      keys = c.in_ok-keys.keys;
      are_keys = c.in_ok-keys.ensures;
      in_folder = subst (λ (path : List ℕ). g.A.Archive.is_folder archive path) folder c.in_ok-find_folder.ensures.ok;
      stored = stored;
      loads = subst (λ (path : List ℕ). LoadsNode g.A.Archive archive g.A.Store.NodeStore path scheme c.args.setup.node (sum_text scheme) stored) folder
          (subst (λ (text : List ℕ). LoadsNode g.A.Archive archive g.A.Store.NodeStore c.as_str-folder.result.now scheme c.args.setup.node text stored) sum loads);
      middle = middle;
      told = subst (λ (text : List ℕ). Appends v middle (sum_line text)) told c.in_ok-write_sum.ensures;
      ended = c.in_ok-ended.ended;
      lives = subst (λ (n : Node). Lives (λ path inputs. IsExported g.A.Archive archive g.A.Store.NodeStore path n inputs) scheme n stored.state.journal c.in_ok-ended.ended.state (g.I.Read.remaining c.args.reader.now) (g.I.Read.remaining c.run_linked.new.reader) middle (g.W.Write.contents c.run_linked.new.writer)) node
          (subst (λ (lent : Bor g.row.A.Denot). Lives (λ path inputs. IsExported g.A.Archive lent.now g.A.Store.NodeStore path stored.state.node inputs) scheme stored.state.node stored.state.journal c.in_ok-ended.ended.state (g.I.Read.remaining c.args.reader.now) (g.I.Read.remaining c.run_linked.new.reader) middle (g.W.Write.contents c.run_linked.new.writer)) c.new-exporter.ensures c.in_ok-ended.ensures.life);
      keeps = c.in_ok-ended.ensures.keeps;
      closed = closed;
    })
    c.close_store.ensures
