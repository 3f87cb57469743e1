-- The transfers that are due have each unit once.
use Rattle.std.proofs.Common.{◌≡◌, List, false, subst}
use Rattle.units.specs.declared.code.Node.TheVariants.{Registry}
use Rattle.scheme.specs.declared.members.SchemeRegistry.{SchemeRegistry}
use Rattle.scheme.specs.declared.registries.Scheme.{Scheme}
use Rattle.protocol.specs.Claims.{live_of}
use Rattle.protocol.specs.History.{sends}
use Rattle.protocol.specs.Pieces.{pieces, repeats}
use Rattle.protocol.specs.Table.{ProposedTransfer, due, is_due, proposed, transactions}
use Rattle.protocol.specs.declared.event.WorldEvent.{WorldEvent}
use Rattle.units.proofs.Lists.Membership.{In, In_filter, In_flat_map}
use Rattle.safety.proofs.DeliveryLemmas.KindsOfOffers.{sound_offer}
use Rattle.safety.proofs.OneRegistry.ProposedTransfers.{In_proposals}
use Rattle.safety.proofs.WorldLemmas.ReachedWorlds.{reached, reached_live}

pub due_apart : (scheme : Scheme) (events : List WorldEvent) (p : ProposedTransfer) → In p (due (reached scheme events)) → repeats (pieces p.content.units) ≡ false
due_apart scheme events p h =
    let w = reached scheme events in
    let i = (In_filter (is_due (live_of w)) (transactions w) p h).0 in
    let m = In_flat_map (λ (z : SchemeRegistry). proposed (live_of w (Registry z.code))) p w.scheme.members i in
    let sent = In_proposals (sends (live_of w (Registry m.0.code))) p m.2 in
    subst (λ (z : ProposedTransfer). repeats (pieces z.content.units) ≡ false) sent.2 (sound_offer scheme (live_of w) (reached_live scheme events) m.0.code sent.0 sent.1).apart
