-- Blocks that were prepared one after another, taken back or filled in the opposite order.
use Rattle.std.proofs.Common.{◌≡◌, ℕ, ◌+◌, ◌<◌, inl, List, [], ◌∷◌, ◌++◌, map, length, reverse, get_or, take, Option, IsSome, sym, ap, ◌∙◌, subst, arith}
use Rattle.std.specs.List.{AllByRecursion}
use Rattle.std.proofs.lemmas.List.{append_assoc, append-nil, reverse-append, take_more}
use Rattle.units.specs.Apart.{AreApart, AllApart, Pairwise}
use Rattle.units.specs.Keys.{first_unit}
use Rattle.units.specs.SpanSteps.{ArePrepared, AreSetIn, Restores, set_to}
use Rattle.units.specs.Spans.{AreParted, Mean, filled}
use Rattle.units.specs.declared.block.Block.{Block}
use Rattle.units.specs.declared.block.Unit.{Unit as Serial}
use Rattle.units.specs.declared.unit_map.setting.Prepared.{Prepared}
use Rattle.units.proofs.SpanFills.{set_more, means_more, still_key}
use Rattle.units.proofs.SpanPuts.{Held}

pairwise_end : {X : Type 0} (R : X → X → Type 0) (xs ys : List X) → Pairwise R (xs ++ ys) → Pairwise R ys
pairwise_end R [] ys p = p
pairwise_end R (x ∷ xs) ys p = pairwise_end R xs ys p.1

module _ {M : Type 0} where
  abbrev pub blocks_of : List (Prepared M) → List Block
  blocks_of ps = reverse (map (λ p. p.block) ps)

  blocks_of_more : (p : Prepared M) (ps : List (Prepared M)) → blocks_of (p ∷ ps) ≡ blocks_of ps ++ p.block ∷ []
  blocks_of_more p ps = reverse-append (p.block ∷ []) (map (λ q. q.block) ps)

  -- one more of the blocks was prepared
  pub prepared_next : (blocks : List Block) (i : ℕ) (b : Block) (p : Prepared M) (ps : List (Prepared M)) → i < length blocks → b ≡ get_or blocks i b → p.block ≡ b → blocks_of ps ≡ take i blocks → blocks_of (p ∷ ps) ≡ take (i + 1) blocks
  prepared_next blocks i b p ps lt is same so_far =
      blocks_of_more p ps ∙ ap (λ bs. bs ++ p.block ∷ []) so_far
      ∙ ap (λ (c : Block). take i blocks ++ c ∷ []) (same ∙ is) ∙ sym (take_more blocks i b lt)

  -- ---- taken back

  -- the newest block's steps are taken back, the one at its end first
  pub taken_back : (p : Prepared M) (ps : List (Prepared M)) (before now middle new : Held M) → ArePrepared (p ∷ ps) before now
      → ((back : Held M) → Restores p.end back now → (q : Serial) → middle q ≡ back q) → ((back : Held M) → Restores p.first back middle → (q : Serial) → new q ≡ back q)
      → ArePrepared ps before new
  taken_back p ps before now middle new are undone_end undone_first =
      let steps = are.1.1 in
      let at_end : steps.middle ≡ middle = λ i q. sym (undone_end steps.middle steps.end q) i in
      let at_first : are.0 ≡ new = λ i q. sym (undone_first are.0 (subst (Restores p.first are.0) at_end steps.first) q) i in
      subst (ArePrepared ps before) at_first are.1.0

  -- ---- filled

  -- the newest blocks are filled, the others prepared
  pub record AreSetting (Gives : Block → Option M → Type 0) (blocks : List Block) (ps : List (Prepared M)) (old new : Held M) : Type 0 where
    pub done : List Block
    pub middle : Held M
    pub blocks_are : blocks_of ps ++ done ≡ blocks
    pub prepared : ArePrepared ps old middle
    pub labels : AllByRecursion (λ p. Gives p.block p.label) ps
    pub set : AreSetIn done middle new
    pub means : (given : Block → Option M) → ((b : Block) (r : Option M) → Gives b r → r ≡ given b) → (f : Serial → Option M) → Mean middle f → Mean new (set_to given done f)

  module _ (Gives : Block → Option M → Type 0) (blocks : List Block) (apart : AllApart blocks) where
    -- nothing is filled yet
    pub all_prepared : (ps : List (Prepared M)) (old new : Held M) → blocks_of ps ≡ blocks → ArePrepared ps old new → AllByRecursion (λ p. Gives p.block p.label) ps → AreParted new → AreSetting Gives blocks ps old new
    all_prepared ps old new are prepared labels parted = record {
      done = [];
      middle = new;
      blocks_are = append-nil (blocks_of ps) ∙ are;
      prepared = prepared;
      labels = labels;
      set = record { parted = parted; cuts = λ q only c. c; keys = λ q out some. some; seams = λ q seam. inl seam };
      means = λ given gives f mean. mean;
    }

    module _ (p : Prepared M) (ps : List (Prepared M)) (old now : Held M) (setting : AreSetting Gives blocks (p ∷ ps) old now) where
      done_next : blocks_of ps ++ p.block ∷ setting.done ≡ blocks
      done_next = sym (append_assoc (blocks_of ps) (p.block ∷ []) setting.done) ∙ ap (λ bs. bs ++ setting.done) (sym (blocks_of_more p ps)) ∙ setting.blocks_are

      apart_next : AllApart (p.block ∷ setting.done)
      apart_next = pairwise_end (λ a b. AreApart a.raw b.raw) (blocks_of ps) (p.block ∷ setting.done) (subst AllApart (sym done_next) apart)

      -- the key at which the newest block's span is to stand
      pub next_key : IsSome p.label → IsSome (now (first_unit p.block.raw))
      next_key some = still_key p.block setting.done p.label setting.prepared.0 setting.middle now apart_next setting.prepared.1.1.prepared setting.set some

      -- one block more is filled
      pub filled_next : (new : Held M) → ((q : Serial) → new q ≡ filled p.block.raw p.label now q) → AreSetting Gives blocks ps old new
      filled_next new puts =
          let before = setting.prepared.0 in
          let one = setting.prepared.1.1.prepared in
          record {
            done = p.block ∷ setting.done;
            middle = before;
            blocks_are = done_next;
            prepared = setting.prepared.1.0;
            labels = setting.labels.1;
            set = set_more p.block setting.done p.label before setting.middle now new apart_next one setting.set puts;
            means = λ given gives. means_more p.block setting.done p.label before setting.middle now new apart_next one setting.set puts given (gives p.block p.label setting.labels.0) (setting.means given gives);
          }

    -- all blocks are filled
    pub all_set : (ps : List (Prepared M)) (old new : Held M) → length ps ≡ 0 → AreSetting Gives blocks ps old new → AreSetIn blocks old new
    all_set [] old new none setting = subst (λ bs. AreSetIn bs old new) setting.blocks_are (subst (λ h. AreSetIn setting.done h new) (sym setting.prepared) setting.set)
    all_set (p ∷ ps) old new none setting = absurd (omega arith)

    pub all_mean : (ps : List (Prepared M)) (old new : Held M) → length ps ≡ 0 → AreSetting Gives blocks ps old new
        → (given : Block → Option M) → ((b : Block) (r : Option M) → Gives b r → r ≡ given b) → (f : Serial → Option M) → Mean old f → Mean new (set_to given blocks f)
    all_mean [] old new none setting given gives f mean = subst (λ bs. Mean new (set_to given bs f)) setting.blocks_are (setting.means given gives f (subst (λ h. Mean h f) setting.prepared mean))
    all_mean (p ∷ ps) old new none setting given gives f mean = absurd (omega arith)
