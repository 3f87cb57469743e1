-- One look at a node: it rests, or it takes a record and its messages are posted.
use Rattle.std.proofs.Common.{◌≡◌, ℕ, ◌+◌, ◌<◌, ◌≤◌, List, [], ◌∷◌, ◌++◌, true, false, Some, None, Ok, inl, inr, refl, sym, ap, subst, ◌∙◌, length, map, arith, get_or-set_same, get_or-set_other}
use Rattle.std.specs.Prelude.{is_some, option_map, slice_get, slice_index, Contains, ◌⊎◌, if◌then◌else◌}
use Rattle.std.proofs.Math.ListN.{set, length-set}
use Rattle.std.proofs.lemmas.Bool.{cases_eq}
use Rattle.std.proofs.lemmas.List.Elements.{Contains-push, Contains-append_left}
use Rattle.std.proofs.lemmas.Option.{slice_get_within}
use Rattle.units.specs.declared.code.Node.{Node}
use Rattle.status.specs.declared.id.TransactionId.{TransactionId}
use Rattle.wire.specs.declared.input.Input.{Input}
use Rattle.scheme.specs.declared.registries.Scheme.{Scheme}
use Rattle.wire.specs.declared.message.Message.{Message}
use Rattle.status.specs.Id.{same_id}
use Rattle.protocol.specs.declared.event.Posted.{Posted}
use Rattle.protocol.specs.Claims.{committed_of, committed_part, whole}
use Rattle.protocol.specs.Cores.{answer}
use Rattle.protocol.specs.History.{sends}
use Rattle.protocol.specs.Registries.{is_node, nodes, index_of}
use Rattle.protocol.specs.Weave.{IsQuiet}
use Rattle.protocol.specs.World.{Station, World, opening, run, station, step}
use Rattle.protocol.specs.declared.event.Outcome.TheVariants.{Recorded}
use Rattle.protocol.specs.declared.event.WorldEvent.{WorldEvent}
use Rattle.protocol.specs.declared.event.WorldEvent.TheVariants.{Commit, Post}
use Rattle.protocol.specs.declared.node_core.Stepped.TheVariants as stepped
use Rattle.units.proofs.Lists.Membership.{In, In_cases, In_slice_get}
use Rattle.units.proofs.Lists.OneValue.{one_some}
use Rattle.units.proofs.Lists.Positions.{In_contains, contains_in}
use Rattle.safety.proofs.WorldLemmas.SchemesKept.{run_scheme}
use Rattle.weave.specs.Following.{committed_at}
use Rattle.weave.specs.Kept.{HasPosted, HasWholeSame, IsFollowing, IsFollowingWith, IsPosting, Posts, Takes, left_in, numbers_of}
use Rattle.weave.specs.Steps.{Fits, Follows, IsNextBy, IsNotRecorded, IsPostedTo, Waits, idle_station, next_message, sent_count, whole_at, with_message, without_tails}
use Rattle.weave.specs.declared.following.Following.{Following}
use Rattle.weave.specs.declared.following.Visit.{Visit}
use Rattle.weave.specs.declared.following.Visit.TheVariants.{Advanced, Rests}
use Rattle.protocol.proofs.NodeIndices.{node_of_index, node_there}
use Rattle.weave.proofs.Followed.{all_placed, fewer, follows_posted, follows_taken, left_journals, left_stations, taken_advances}
use Rattle.weave.proofs.OneMore.{Advances, posted_to, sent_more}
use Rattle.weave.proofs.Posting.{all_posted, is_sent, posted_more}
use Rattle.weave.proofs.Tails.{commit_idle, commit_nodes, commit_whole, fits_idle, is_recorded, next_same, raw_station, station_idle, takes_and_commits, whole_none}
use Rattle.weave.proofs.Tried.{stands_last}

-- ---- what is kept, by other names

pub follows_same : (scheme : Scheme) (w v : World) (events es : List WorldEvent) (numbers ps : TransactionId → List ℕ) (posted po : List ℕ) (pending ns : List Node)
    → v ≡ w → es ≡ events → ((t : TransactionId) → ps t ≡ numbers t) → po ≡ posted → ns ≡ pending → Follows scheme (whole_at w) (without_tails w) events numbers posted pending → Follows scheme (whole_at v) (without_tails v) es ps po ns
follows_same scheme w v events es numbers ps posted po pending ns world_is events_are numbers_are posted_are pending_are f =
    subst (λ (z : World). Follows scheme (whole_at z) (without_tails z) es ps po ns) (sym world_is)
    (subst (λ z. Follows scheme (whole_at w) (without_tails w) z ps po ns) (sym events_are)
    (subst (λ z. Follows scheme (whole_at w) (without_tails w) events ps z ns) (sym posted_are)
    (subst (λ z. Follows scheme (whole_at w) (without_tails w) events ps posted z) (sym pending_are)
    (record {
      led = f.led;
      front = f.front;
      numbered = λ k p is. subst (λ (ks : List ℕ). Contains ks k) (sym (numbers_are _)) (f.numbered k p is);
      counted = f.counted;
      counts = f.counts;
      waits = f.waits;
    }))))

waits_journals : (w : World) (js ks : Node → List Input) (n : Node) → ks n ≡ js n → Waits w js n → Waits w ks n
waits_journals w js ks n same h input rest left = h input rest (sym same ∙ left)

-- the journals are the same at each node
pub follows_journals : (scheme : Scheme) (js ks : Node → List Input) (w : World) (events : List WorldEvent) (numbers : TransactionId → List ℕ) (posted : List ℕ) (pending : List Node) → ((n : Node) → ks n ≡ js n)
    → Follows scheme js w events numbers posted pending → Follows scheme ks w events numbers posted pending
follows_journals scheme js ks w events numbers posted pending same f = record {
  led = f.led;
  front = λ n. ((f.front n).0, same n ∙ (f.front n).1);
  numbered = f.numbered;
  counted = f.counted;
  counts = f.counts;
  waits = λ n. elim (f.waits n) [ inl h ↦ inl h | inr h ↦ inr (waits_journals w js ks n (same n) h) ];
}

-- as much is pending, by another name
pub with_pending : (scheme : Scheme) (f g : Following) (pending ns : List Node) → g.world ≡ f.world → g.events.items ≡ f.events.items → ((t : TransactionId) → numbers_of g t ≡ numbers_of f t) → g.posted.items ≡ f.posted.items → pending ≡ ns
    → IsFollowingWith scheme f pending → IsFollowingWith scheme g ns
with_pending scheme f g pending ns world_is events_are numbers_are posted_are pending_are i = record {
  follows = follows_same scheme f.world g.world f.events.items g.events.items (numbers_of f) (numbers_of g) f.posted.items g.posted.items pending ns world_is events_are numbers_are posted_are (sym pending_are) i.follows;
  nodes_are = ap (λ (z : World). map (λ (x : Station). x.node) z.stations) world_is ∙ i.nodes_are;
}

-- whole journals of the same stations
pub whole_stations : (w v : World) → v.stations ≡ w.stations → HasWholeSame w v
whole_stations w v same n = ap (λ (ss : List Station). whole_at (record w { stations = ss }) n) same

-- ---- the next record of a journal

pub next_of : (xs ys : List Input) (input : Input) → slice_get (xs ++ ys) (length xs) ≡ Some input → (rest : List Input) × (ys ≡ input ∷ rest)
next_of [] [] input e = absurd (cc (e))
next_of [] (y ∷ ys) input e = (ys, ap (λ z. z ∷ ys) (one_some y input e))
next_of (x ∷ xs) ys input e = next_of xs ys input e

pub next_is : (xs ys : List Input) (input : Input) → slice_get (xs ++ input ∷ ys) (length xs) ≡ Some input
next_is [] ys input = refl
next_is (x ∷ xs) ys input = next_is xs ys input

module _ (w : World) (journals : Node → List Input) (n : Node) where
  -- no record is left
  pub waits_end : slice_get (journals n) (length (committed_at w n)) ≡ None → Waits w journals n
  waits_end none input rest left e place gives recorded =
      let here : None ≡ Some input = sym none ∙ ap (λ xs. slice_get xs (length (committed_at w n))) left ∙ next_is (committed_at w n) rest input in
      absurd (cc (here))

  -- no event makes the node record the next one
  pub waits_for : (input : Input) → slice_get (journals n) (length (committed_at w n)) ≡ Some input → IsNotRecorded w n input → Waits w journals n
  waits_for input is none other rest left =
      let here : Some input ≡ Some other = sym is ∙ ap (λ xs. slice_get xs (length (committed_at w n))) left ∙ next_is (committed_at w n) rest other in
      subst (IsNotRecorded w n) (one_some input other here) none

-- ---- the node rests

pub follows_rests : (scheme : Scheme) (journals : Node → List Input) (w : World) (events : List WorldEvent) (numbers : TransactionId → List ℕ) (posted : List ℕ) (pending : List Node) (n : Node)
    → Follows scheme journals w events numbers posted (pending ++ n ∷ []) → Waits w journals n → Follows scheme journals w events numbers posted pending
follows_rests scheme journals w events numbers posted pending n f waits = record {
  led = f.led;
  front = f.front;
  numbered = f.numbered;
  counted = f.counted;
  counts = f.counts;
  waits = λ m. elim (f.waits m) [ inl h ↦ cases m (In_cases m pending (n ∷ []) (In_contains (pending ++ n ∷ []) m h)) | inr h ↦ inr h ];
}
  where
    cases : (m : Node) → In m pending ⊎ In m (n ∷ []) → Contains pending m ⊎ Waits w journals m
    cases m (inl h) = inl (contains_in pending m h)
    cases m (inr (inl e)) = inr (subst (Waits w journals) e waits)
    cases m (inr (inr h)) = absurd h

module _ (scheme : Scheme) (f : Following) (n : Node) (follows : IsFollowingWith scheme f (f.pending.items ++ n ∷ [])) (quiet : IsQuiet (without_tails f.world)) where
  pub rests : Waits (without_tails f.world) (whole_at f.world) n → IsFollowing scheme f
  rests waits = record {
    follows = record {
      follows = follows_rests scheme (whole_at f.world) (without_tails f.world) f.events.items (numbers_of f) f.posted.items f.pending.items n follows.follows waits;
      nodes_are = follows.nodes_are;
    };
    quiet = quiet;
  }

  scheme_is : f.world.scheme ≡ scheme
  scheme_is = ap (λ (z : World). z.scheme) follows.follows.led ∙ run_scheme (opening scheme) f.events.items

  -- it is no node of the scheme
  pub rests_nowhere : index_of scheme n ≡ None → IsFollowing scheme f
  rests_nowhere none =
      let outside : is_node f.world.scheme n ≡ false = ap (λ (z : Scheme). is_node z n) scheme_is ∙ sym (node_there scheme n) ∙ ap is_some none in
      let nothing : whole_at f.world n ≡ [] = whole_none f.world n (all_placed scheme (whole_at f.world) (without_tails f.world) f.events.items (numbers_of f) f.posted.items (f.pending.items ++ n ∷ []) follows.follows n ∙ outside) in
      rests (waits_end (without_tails f.world) (whole_at f.world) n (ap (λ (xs : List Input). slice_get xs (length (committed_at (without_tails f.world) n))) nothing))

  -- it is one, which is idle without its tail
  pub idle_there : (at : ℕ) → index_of scheme n ≡ Some at → (s : Station) × (station f.world n ≡ Some s) × (s.runs ≡ true)
  idle_there at index =
      let idle = quiet.idle n (ap (λ (z : Scheme). is_node z n) scheme_is ∙ sym (node_there scheme n) ∙ ap is_some index) in
      let raw = raw_station (station f.world n) idle.at (sym (station_idle f.world n) ∙ idle.is) in
      (raw.0, raw.1, raw.2 ∙ idle.runs)

-- ---- the node takes a record

module _ (scheme : Scheme) (f g : Following) (n : Node) (e : WorldEvent) (at : ℕ) (follows : IsFollowingWith scheme f (f.pending.items ++ n ∷ [])) (quiet : IsQuiet (without_tails f.world)) (index : index_of scheme n ≡ Some at) (by : IsNextBy f.world n e)
    (t : Takes f g n e) where
  there : (s : Station) × (station f.world n ≡ Some s) × (s.runs ≡ true)
  there = idle_there scheme f n follows quiet at index

  s : Station
  s = there.0

  here : station (without_tails f.world) n ≡ Some (idle_station there.0)
  here = station_idle f.world n ∙ ap (option_map idle_station) there.1

  committed_is : committed_at f.world n ≡ there.0.committed
  committed_is = ap committed_part there.1

  tail : (rest : List Input) × (there.0.tail ≡ by.input ∷ rest)
  tail =
      next_of there.0.committed there.0.tail by.input
      (sym (ap (λ o. slice_get (whole o) (length there.0.committed)) there.1) ∙ ap (λ (xs : List Input). slice_get (whole_at f.world n) (length xs)) (sym committed_is) ∙ by.next)

  answer_is : answer f.world.scheme n there.0.committed by.input ≡ Ok (stepped.Recorded (length (committed_at f.world n)))
  answer_is = ap (λ (xs : List Input). answer f.world.scheme n xs by.input) (sym committed_is) ∙ by.recorded

  fits : Fits (without_tails f.world) e n by.input
  fits = fits_idle f.world e n by.input by.fits

  recorded : (step (without_tails f.world) e).outcome ≡ Recorded (length (there.0.committed ++ []))
  recorded = is_recorded (without_tails f.world) n (idle_station there.0) by.input e (length (committed_at f.world n)) here there.2 refl fits answer_is

  goes_on : without_tails g.world ≡ run (without_tails f.world) (e ∷ Commit n 1 ∷ [])
  goes_on =
      ap without_tails t.world ∙ commit_idle f.world n there.0 by.input there.1 there.2 tail.0 tail.1
      ∙ sym (takes_and_commits (without_tails f.world) n (idle_station there.0) by.input e (length (committed_at f.world n)) here there.2 refl fits answer_is)

  left : whole_at f.world n ≡ committed_at (without_tails f.world) n ++ by.input ∷ tail.0
  left = ap whole there.1 ∙ ap (λ (xs : List Input). there.0.committed ++ xs) tail.1 ∙ ap (λ o. committed_part o ++ by.input ∷ tail.0) (sym here)

  pub takes_whole : HasWholeSame f.world g.world
  takes_whole m = ap (λ (z : World). whole_at z m) t.world ∙ commit_whole f.world n there.0 by.input there.1 there.2 tail.0 tail.1 m

  one_input : Advances (without_tails f.world) (without_tails g.world) n by.input
  one_input =
      subst (λ (z : World). Advances (without_tails f.world) z n by.input) (sym goes_on)
      (taken_advances scheme (whole_at f.world) (without_tails f.world) f.events.items (numbers_of f) f.posted.items (f.pending.items ++ n ∷ []) follows.follows n by.input tail.0 e (length (there.0.committed ++ [])) quiet left fits.gives recorded)

  few : slice_index g.posted.items at ≤ sent_count (without_tails f.world) n
  few = subst (λ k. k ≤ sent_count (without_tails f.world) n) (sym (ap (λ ks. slice_index ks at) t.posted)) (follows.follows.counts at n (node_of_index scheme n at index))

  goes_with : Follows scheme (whole_at g.world) (without_tails g.world) (f.events.items ++ e ∷ Commit n 1 ∷ []) (numbers_of f) f.posted.items (f.pending.items ++ n ∷ [])
  goes_with =
      follows_journals scheme (whole_at f.world) (whole_at g.world) (without_tails g.world) (f.events.items ++ e ∷ Commit n 1 ∷ []) (numbers_of f) f.posted.items (f.pending.items ++ n ∷ []) takes_whole
      (subst (λ (z : World). Follows scheme (whole_at f.world) z (f.events.items ++ e ∷ Commit n 1 ∷ []) (numbers_of f) f.posted.items (f.pending.items ++ n ∷ [])) (sym goes_on)
      (follows_taken scheme (whole_at f.world) (without_tails f.world) f.events.items (numbers_of f) f.posted.items (f.pending.items ++ n ∷ []) follows.follows n by.input tail.0 e (length (there.0.committed ++ [])) quiet left fits.gives recorded
      (Contains-push f.pending.items n)))

  pub takes_posting : IsPosting scheme g n (slice_index g.posted.items at)
  takes_posting = record {
    follows = record {
      follows = follows_same scheme g.world g.world (f.events.items ++ e ∷ Commit n 1 ∷ []) g.events.items (numbers_of f) (numbers_of g) f.posted.items g.posted.items (f.pending.items ++ n ∷ []) g.pending.items refl t.events t.numbers t.posted t.pending goes_with;
      nodes_are = ap (λ (z : World). map (λ (x : Station). x.node) z.stations) t.world ∙ commit_nodes f.world n ∙ follows.nodes_are;
    };
    node = subst (λ (z : Scheme). is_node z n ≡ true) (sym one_input.scheme) one_input.node;
    pending = subst (λ (ns : List Node). Contains ns n) (sym t.pending) (Contains-push f.pending.items n);
    posted = posted_to (without_tails f.world) (without_tails g.world) n by.input one_input quiet (slice_index g.posted.items at) few;
    few = let more = sent_more (without_tails f.world) (without_tails g.world) n by.input one_input n in omega (arith, few);
  }

  -- and fewer records are left
  pub takes_fewer : (v : World) → v.stations ≡ g.world.stations → left_in v (nodes scheme) < left_in f.world (nodes scheme)
  takes_fewer v same =
      let less = fewer (whole_at f.world) (without_tails f.world) (without_tails g.world) n by.input tail.0 one_input left (nodes scheme) (In_slice_get (nodes scheme) at n (node_of_index scheme n at index)) in
      omega (arith, less, left_stations g.world v same (nodes scheme), left_journals (whole_at f.world) (whole_at g.world) (without_tails g.world) takes_whole (nodes scheme))

-- ---- its messages are posted

pub posts_same : (f g : Following) (n : Node) (key : ℕ) → Posts f g n key → g.world.stations ≡ f.world.stations
posts_same f g n key p = ap (λ (z : World). z.stations) p.world

-- a message found last in the bag
pub posts_by : (f g : Following) (n : Node) (key : ℕ) (m : Message) (p : Posted) (id : TransactionId) (to : Node) (bag : List Posted) → next_message f.world n key ≡ Some m → g.world ≡ with_message f.world n key m → bag ≡ f.world.bag
    → Some p ≡ slice_get g.world.bag (length bag) → id ≡ p.message.id → to ≡ p.message.to
    → ((t : TransactionId) → numbers_of g t ≡ (if same_id id t then numbers_of f t ++ length bag ∷ [] else numbers_of f t)) → g.events.items ≡ f.events.items ++ Post n key ∷ [] → g.posted.items ≡ f.posted.items
    → g.pending.items ≡ f.pending.items ++ to ∷ [] → Posts f g n key
posts_by f g n key m p id to bag next world bag_is last id_is to_is numbers events posted pending = record {
  message = m;
  next = next;
  world = world;
  events = events;
  numbers = λ t. numbers t ∙ ap (λ (z : TransactionId). if same_id z t then numbers_of f t ++ length bag ∷ [] else numbers_of f t) (id_is ∙ ap (λ (z : Posted). z.message.id) same)
      ∙ ap (λ (b : List Posted). if same_id m.id t then numbers_of f t ++ length b ∷ [] else numbers_of f t) bag_is;
  posted = posted;
  pending = pending ∙ ap (λ (z : Node). f.pending.items ++ z ∷ []) (to_is ∙ ap (λ (z : Posted). z.message.to) same);
}
  where
    same : p ≡ record { node = n; key = key; message = m }
    same = one_some p (record { node = n; key = key; message = m }) (last ∙ ap (λ (b : List Posted). slice_get g.world.bag (length b)) bag_is ∙ stands_last f.world g.world n key m world)

pub posted_on : (f g : Following) (n : Node) (key : ℕ) (p : Visit) → (p ≡ Rests → ⊥) → HasPosted f g n key p → Posts f g n key
posted_on f g n key Advanced went h = h
posted_on f g n key Rests went h = absurd (went refl)

module _ (scheme : Scheme) (f g : Following) (n : Node) (key : ℕ) (i : IsPosting scheme f n key) where
  pub posts_posting : Posts f g n key → IsPosting scheme g n (key + 1)
  posts_posting p =
      let next : next_message (without_tails f.world) n key ≡ Some p.message = next_same f.world n key ∙ p.next in
      let longer : World = with_message f.world n key p.message in
      record {
        follows = record {
          follows = follows_same scheme longer g.world (f.events.items ++ Post n key ∷ []) g.events.items (numbers_of g) (numbers_of g) f.posted.items g.posted.items (f.pending.items ++ p.message.to ∷ []) g.pending.items p.world p.events (λ t. refl) p.posted p.pending
              (follows_posted scheme (whole_at f.world) (without_tails f.world) f.events.items (numbers_of f) (numbers_of g) f.posted.items f.pending.items n key p.message i.follows.follows i.pending next p.numbers);
          nodes_are = ap (λ (z : World). map (λ (x : Station). x.node) z.stations) p.world ∙ i.follows.nodes_are;
        };
        node = subst (λ (z : World). is_node z.scheme n ≡ true) (sym p.world) i.node;
        pending = subst (λ (ns : List Node). Contains ns n) (sym p.pending) (Contains-append_left f.pending.items (p.message.to ∷ []) n i.pending);
        posted = subst (λ (z : World). IsPostedTo (without_tails z) n (key + 1)) (sym p.world) (posted_more (without_tails f.world) n key p.message next i.posted);
        few = subst (λ (z : World). key + 1 ≤ sent_count (without_tails z) n) (sym p.world)
            (let below = slice_get_within (sends (committed_of (without_tails f.world) n)) key p.message (is_sent (without_tails f.world) n key p.message next) in omega (arith, below));
      }

  -- none is left to post
  pub posting_ends : (p : Visit) → p ≡ Rests → HasPosted f g n key p → IsPosting scheme g n key × IsQuiet (without_tails g.world)
  posting_ends p is h =
      let r : (next_message f.world n key ≡ None) × (g ≡ f) = subst (HasPosted f g n key) is h in
      subst (λ (z : Following). IsPosting scheme z n key × IsQuiet (without_tails z.world)) (sym r.1) (i, all_posted (without_tails f.world) n key i.node i.posted (next_same f.world n key ∙ r.0))

  -- how many were posted is written down
  pub stored : (at : ℕ) → index_of scheme n ≡ Some at → at < length f.posted.items → IsQuiet (without_tails f.world) → g.world ≡ f.world → g.events.items ≡ f.events.items → ((t : TransactionId) → numbers_of g t ≡ numbers_of f t)
      → g.posted.items ≡ set f.posted.items at key → g.pending.items ≡ f.pending.items → IsFollowing scheme g
  stored at index within quiet world_is events_are numbers_are posted_are pending_are = record {
    follows = record {
      follows = follows_same scheme f.world g.world f.events.items g.events.items (numbers_of f) (numbers_of g) (set f.posted.items at key) g.posted.items f.pending.items g.pending.items world_is events_are numbers_are posted_are pending_are (record {
        led = i.follows.follows.led;
        front = i.follows.follows.front;
        numbered = i.follows.follows.numbered;
        counted = length-set f.posted.items at key ∙ i.follows.follows.counted;
        counts = λ k m is. counts_set k m is;
        waits = i.follows.follows.waits;
      });
      nodes_are = ap (λ (z : World). map (λ (x : Station). x.node) z.stations) world_is ∙ i.follows.nodes_are;
    };
    quiet = subst (λ (z : World). IsQuiet (without_tails z)) (sym world_is) quiet;
  }
    where
      counts_set : (k : ℕ) (m : Node) → slice_get (nodes scheme) k ≡ Some m → slice_index (set f.posted.items at key) k ≤ sent_count (without_tails f.world) m
      counts_set k m is =
          elim (cases_eq k at) [
            | inl e ↦
                let here : Some n ≡ Some m = sym (node_of_index scheme n at index) ∙ subst (λ z. slice_get (nodes scheme) z ≡ Some m) e is in
                let written : slice_index (set f.posted.items at key) k ≡ key = subst (λ z. slice_index (set f.posted.items at key) z ≡ key) (sym e) (get_or-set_same f.posted.items at key 0 within) in
                subst (λ z. slice_index (set f.posted.items at key) k ≤ sent_count (without_tails f.world) z) (one_some n m here) (omega (arith, written, i.few))
            | inr ne ↦
                let as_before : slice_index (set f.posted.items at key) k ≡ slice_index f.posted.items k = get_or-set_other f.posted.items at k key 0 ne in
                omega (arith, as_before, i.follows.follows.counts k m is)
          ]
