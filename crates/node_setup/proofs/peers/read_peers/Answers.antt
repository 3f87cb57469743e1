use Rattle.std.proofs.Common.{◌≡◌, ◌∙◌, ◌<◌, ◌≤◌, [], List, ℕ, ap, arith, get_or, inl, inr, length, map, subst, sym}
use Rattle.std.specs.Prelude.{string_bytes}
use Rattle.std.proofs.lemmas.List.{get_or-map, length-map, take_all}
use Rattle.std.proofs.lemmas.Result.{err_from_is_err_and}
use Rattle.node_setup.specs.Peers.{ArePeers}
use Rattle.node_setup.proofs.Adding.{next_peer, wrong_peer}
use Rattle.node_setup.proofs.peers.read_peers.Goals as goal

pub loop-at-preserved : goal.loop-at-preserved
loop-at-preserved g c =
    let texts = map string_bytes c.args.words.now in
    let low : c.loop-at.at < length texts = omega (arith, c.loop-at-test.true, c.loop-at.auto.at-end, length-map c.args.words.now string_bytes) in
    let is : c.as_str.result.now ≡ get_or texts c.loop-at.at [] = c.as_str.ensures.value ∙ (ap string_bytes c.index-words-at.is ∙ sym (get_or-map string_bytes c.args.words.now c.loop-at.at c.index-words-at.result [] (omega (arith, c.loop-at-test.true, c.loop-at.auto.at-end)))) in
    next_peer c.args.scheme.now c.args.node c.args.guard texts c.loop-at.at c.as_str.result.now [] c.loop-at.ports c.add_peer.new.ports c.loop-at.invariant low is c.in_ok-add_peer.ensures.ok

pub returns-in_err-add_peer-clause-err : goal.returns-in_err-add_peer-clause-err
returns-in_err-add_peer-clause-err g c =
    let p = err_from_is_err_and c.from_residual.result c.from_residual.ensures.1 in
    let texts = map string_bytes c.args.words.now in
    let low : c.loop-at.at < length texts = omega (arith, c.loop-at-test.true, c.loop-at.auto.at-end, length-map c.args.words.now string_bytes) in
    let is : c.as_str.result.now ≡ get_or texts c.loop-at.at [] = c.as_str.ensures.value ∙ (ap string_bytes c.index-words-at.is ∙ sym (get_or-map string_bytes c.args.words.now c.loop-at.at c.index-words-at.result [] (omega (arith, c.loop-at-test.true, c.loop-at.auto.at-end)))) in
    rw (p.1, p.2) (inl (wrong_peer c.args.scheme.now c.args.node c.args.guard texts c.loop-at.at c.as_str.result.now [] c.loop-at.ports _ c.loop-at.invariant low is c.in_err-add_peer.ensures.err))

pub returns-in_err-find_all-clause-err : goal.returns-in_err-find_all-clause-err
returns-in_err-find_all-clause-err g c =
    let p = err_from_is_err_and c.from_residual-in_err-find_all.result c.from_residual-in_err-find_all.ensures.1 in
    let texts = map string_bytes c.args.words.now in
    let long : length texts ≤ c.loop-at.at = omega (arith, c.loop-at-test.false, c.loop-at.auto.at-end, length-map c.args.words.now string_bytes) in
    let whole : ArePeers c.args.scheme.now c.args.node c.args.guard texts c.loop-at.ports = subst (λ (ws : List (List ℕ)). ArePeers c.args.scheme.now c.args.node c.args.guard ws c.loop-at.ports) (take_all c.loop-at.at texts long) c.loop-at.invariant in
    rw (p.1, p.2) (inr (c.loop-at.ports, whole, c.in_err-find_all.ensures.err))
