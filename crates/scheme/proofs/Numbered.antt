-- The numbers of a scheme's accounts are in range, and each registry's kinds are different.
use Rattle.std.proofs.Common.{ℕ, List, [], ◌∷◌}
use Rattle.std.specs.Prelude.{IsPermutation}
use Rattle.std.specs.List.{AllByRecursion}
use Rattle.serde_json.specs.Data.{Data, Items, no_items, item}
use Rattle.units.specs.Facts.{IsAccountNumber}
use Rattle.json_fields.specs.Fields.{EachIs}
use Rattle.units.proofs.Lists.Permutations.{each_moved}
use Rattle.scheme.specs.Grammar.{HasNoTwins, IsAccount, IsMember, IsWritten}
use Rattle.scheme.specs.Order.{AreNumbered, HaveDifferentKinds}
use Rattle.scheme.specs.declared.members.SchemeRegistry.{SchemeRegistry}

accounts_numbered : (ds : Items) (ns : List ℕ) → EachIs IsAccount ds ns → AllByRecursion IsAccountNumber ns
accounts_numbered no_items [] each = tt
accounts_numbered no_items (n ∷ ns) each = absurd each
accounts_numbered (item d ds) [] each = absurd each
accounts_numbered (item d ds) (n ∷ ns) each = (each.0.1, accounts_numbered ds ns each.1)

members_numbered : (ds : Items) (ms : List SchemeRegistry) → EachIs IsMember ds ms → AreNumbered ms
members_numbered no_items [] each = tt
members_numbered no_items (m ∷ ms) each = absurd each
members_numbered (item d ds) [] each = absurd each
members_numbered (item d ds) (m ∷ ms) each = let accounts = each.0.accounts in (accounts_numbered accounts.0 m.accounts accounts.2, members_numbered ds ms each.1)

-- the registries that a text writes, in any order
pub written_numbered : (d : Data) (records : ℕ) (listed ms : List SchemeRegistry) → IsWritten d records listed → IsPermutation listed ms → AreNumbered ms
written_numbered d records listed ms written sorted =
    let registries = written.registries in
    each_moved (λ m. AllByRecursion IsAccountNumber m.accounts) listed ms sorted (members_numbered registries.0 listed registries.2)

members_different : (ds : Items) (ms : List SchemeRegistry) → EachIs IsMember ds ms → HaveDifferentKinds ms
members_different no_items [] each = tt
members_different no_items (m ∷ ms) each = absurd each
members_different (item d ds) [] each = absurd each
members_different (item d ds) (m ∷ ms) each = (each.0.no_twins, members_different ds ms each.1)

pub written_different : (d : Data) (records : ℕ) (listed ms : List SchemeRegistry) → IsWritten d records listed → IsPermutation listed ms → HaveDifferentKinds ms
written_different d records listed ms written sorted =
    let registries = written.registries in
    each_moved (λ m. HasNoTwins m.kinds) listed ms sorted (members_different registries.0 listed registries.2)
