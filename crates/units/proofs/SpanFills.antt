-- One span for a block in the place of those within it, and blocks set in turn.
use Rattle.std.proofs.Common.{◌≡◌, ◌⊎◌, inl, inr, ◌+◌, ◌<◌, ◌≤◌, List, [], ◌∷◌, Bool, true, false, true≢false, cond, find, Option, Some, None, IsSome, refl, sym, ap, ◌∙◌, subst, arith}
use Rattle.std.specs.BTreeMap.{is_at}
use Rattle.std.specs.List.{AllByRecursion}
use Rattle.std.specs.Option.{option_map, option_map_or, option_or}
use Rattle.std.proofs.lemmas.Bool.{cases_Bool, cases_lt, false_from_ne_true, or_parts, or_left, or_right}
use Rattle.units.specs.Apart.{AreApart, AllApart}
use Rattle.units.specs.Canonical.{GoesOn}
use Rattle.units.specs.Facts.{IsRange}
use Rattle.units.specs.Intervals.{has}
use Rattle.units.specs.Keys.{unit_cmp, first_unit, unit_numbered}
use Rattle.units.specs.SpanSteps.{IsBegun, IsPrepared, AreSetIn, set_to}
use Rattle.units.specs.Spans.{interval_at, AreParted, Mean, IsSeam, IsCutAt, IsChanged, Puts, filled, begun, after_unit, end_unit, is_between, reaches, reached, relabelled}
use Rattle.units.specs.Unit.{has_unit, covers}
use Rattle.units.specs.declared.block.Block.{Block}
use Rattle.units.specs.declared.block.RawBlock.{RawBlock}
use Rattle.units.specs.declared.block.Unit.{Unit as Serial}
use Rattle.units.specs.declared.unit_map.Span.{Span}
use Rattle.units.proofs.SpanPuts.{Held, put_here, put_other, one_unit, none_held, some_same}
use Rattle.units.proofs.SpanCuts.{goes_line, mean_same}
use Rattle.units.proofs.SpanWalks.{up_self, up_trans, up_from_before, itself_after, not_both}
use Rattle.units.proofs.UnitLines.{line_numbered, line_after, UpTo, in_true, in_true_from, block_true, block_true_from, same_unit, at_true, at_self, at_false_from, between_true, between_true_from, between_false_from}

-- ---- the units of one block, and of others

first_in : (b : RawBlock) → IsRange b.first b.last → has_unit b (first_unit b) ≡ true
first_in b r = block_true_from b (first_unit b) (record { line = refl; low = omega arith; high = r.1 })

no_block : (b : RawBlock) (rest : List Block) (q : Serial) → AllByRecursion (λ (o : Block). AreApart b o.raw) rest → has_unit b q ≡ true → covers rest q ≡ false
no_block b [] q apart in' = refl
no_block b (o ∷ rest) q apart in' = rw (false_from_ne_true (has_unit o.raw q) (λ h. apart.0 q in' h), no_block b rest q apart.1 in') refl

not_within : (b : RawBlock) (rest : List Block) → IsRange b.first b.last → AllByRecursion (λ (o : Block). AreApart b o.raw) rest → AllByRecursion (λ (o : Block). has_unit o.raw (first_unit b) ≡ true → first_unit b ≡ first_unit o.raw) rest
not_within b [] range apart = tt
not_within b (o ∷ rest) range apart = (λ h. absurd (apart.0 (first_unit b) (first_in b range) h), not_within b rest range apart.1)

end_not_within : (b : RawBlock) (rest : List Block) → IsRange b.first b.last → AllByRecursion (λ (o : Block). AreApart b o.raw) rest → AllByRecursion (λ (o : Block). has_unit o.raw (end_unit b) ≡ true → end_unit b ≡ first_unit o.raw) rest
end_not_within b [] range apart = tt
end_not_within b (o ∷ rest) range apart = (
  λ h.
      let i = block_true o.raw (end_unit b) h in
      let s = line_numbered b (b.last + 1) in
      let t = line_numbered b b.last in
      elim (cases_lt o.raw.first (b.last + 1)) [
        | inl lt ↦ absurd (apart.0 (unit_numbered b b.last) (block_true_from b (unit_numbered b b.last) (record { line = sym t; low = range.1; high = omega arith }))
            (block_true_from o.raw (unit_numbered b b.last) (record { line = i.line ∙ s ∙ sym t; low = omega arith; high = (let x = i.high in omega arith) })))
        | inr ge ↦ sym (same_unit (first_unit o.raw) (end_unit b) i.line (let x = i.low in omega arith))
      ],
  end_not_within b rest range apart.1,
)

pub between_block : (b : RawBlock) (v q : Serial) → UpTo (first_unit b) v → is_between v (unit_numbered b b.last) q ≡ true → has_unit b q ≡ true
between_block b v q low h =
    let two = between_true v (unit_numbered b b.last) q h in
    let s = line_numbered b b.last in
    let up = up_trans (first_unit b) v q low two.0 in
    let x = up.line in
    let y = two.1.line in
    let m = up.number (omega arith) in
    let n = two.1.number (omega arith) in
    block_true_from b q (record { line = omega arith; low = m; high = n })

pub in_between : (b : RawBlock) (q : Serial) → has_unit b q ≡ true → is_between (first_unit b) (unit_numbered b b.last) q ≡ true
in_between b q h =
    let i = block_true b q h in
    let l = i.line in
    let s = line_numbered b b.last in
    between_true_from (first_unit b) (unit_numbered b b.last) q (record { line = omega arith; number = λ x. i.low }) (record { line = omega arith; number = λ x. i.high })

behind_first : (b : RawBlock) (q : Serial) → has_unit b q ≡ true → (first_unit b ≡ q → ⊥) → is_between (after_unit (first_unit b)) (unit_numbered b b.last) q ≡ true
behind_first b q h other =
    let i = block_true b q h in
    let l = i.line in
    let s = line_numbered b b.last in
    let t = line_after (first_unit b) in
    let more : b.first < q.number = elim (cases_lt b.first q.number) [
      | inl lt ↦ lt
      | inr ge ↦ absurd (other (same_unit (first_unit b) q i.line (let x = i.low in omega arith)))
    ] in
    between_true_from (after_unit (first_unit b)) (unit_numbered b b.last) q (record { line = omega arith; number = λ x. omega arith }) (record { line = omega arith; number = λ x. i.high })

module _ {M : Type 0} where
  abbrev pub block_span : RawBlock → M → Span M
  block_span b m = record { last = b.last; label = m }

  -- ---- the map of spans after it was filled

  filled_out : (b : RawBlock) (given : Option M) (held : Held M) (q : Serial) → has_unit b q ≡ false → filled b given held q ≡ held q
  filled_out b given held q out = rw out refl

  -- a property of the block's span, and of those that begin outside, is one of each
  each : (P : Serial → Span M → Type 0) (b : RawBlock) (given : Option M) (held : Held M)
      → ((m : M) → given ≡ Some m → P (first_unit b) (block_span b m)) → ((q : Serial) (t : Span M) → has_unit b q ≡ false → held q ≡ Some t → P q t)
      → (q : Serial) (t : Span M) → filled b given held q ≡ Some t → P q t
  each P b given held mine others q t e = elim (cases_Bool (has_unit b q)) [
    | inl in' ↦ elim (cases_Bool (is_at (unit_cmp (first_unit b)) q)) [
      | inl here ↦ subst (λ z. P z t) (at_true (first_unit b) q here) (of_label given refl (let x = rw (in', here) at e in x))
      | inr not_here ↦ absurd (none_held t (rw (in', not_here) at e))
    ]
    | inr out ↦ others q t out (rw out at e)
  ]
    where
      of_label : (o : Option M) → given ≡ o → option_map (block_span b) o ≡ Some t → P (first_unit b) t
      of_label None g f = absurd (none_held t f)
      of_label (Some m) g f = subst (P (first_unit b)) (some_same (block_span b m) t f) (mine m g)

  -- ---- a block that no span goes across an end of

  module _ (b : RawBlock) (given : Option M) (old new : Held M) (range : IsRange b.first b.last) (parted : AreParted old)
      (first : IsCutAt old (first_unit b)) (end : IsCutAt old (end_unit b)) (puts : (q : Serial) → new q ≡ filled b given old q) where
    each_new : (P : Serial → Span M → Type 0) → ((m : M) → given ≡ Some m → P (first_unit b) (block_span b m)) → ((q : Serial) (t : Span M) → has_unit b q ≡ false → old q ≡ Some t → P q t)
        → (q : Serial) (t : Span M) → new q ≡ Some t → P q t
    each_new P mine others q t e = each P b given old mine others q t (sym (puts q) ∙ e)

    -- a span that begins outside has none of the block's units
    outside : (q u : Serial) (t : Span M) → has_unit b q ≡ false → old q ≡ Some t → has (interval_at q t) u ≡ true → has_unit b u ≡ true → ⊥
    outside q u t out e h g =
        let i = in_true q t u h in
        let j = block_true b u g in
        elim (cases_lt q.number b.first) [
          | inl lt ↦
              let across = in_true_from q t (first_unit b) (record { line = i.line ∙ sym j.line; low = omega arith; high = (let x = i.high in let y = j.low in omega arith) }) in
              let same : q.number ≡ b.first = ap (λ (z : Serial). z.number) (first q t e across) in
              absurd (omega arith)
          | inr ge ↦ true≢false (sym (block_true_from b q (record { line = j.line ∙ sym i.line; low = ge; high = (let x = i.low in let y = j.high in omega arith) })) ∙ out)
        ]

    -- a span that begins in the block ends in it
    within : (q : Serial) (t : Span M) → has_unit b q ≡ true → old q ≡ Some t → t.last ≤ b.last
    within q t in' e =
        let j = block_true b q in' in
        elim (cases_lt b.last t.last) [
          | inl lt ↦
              let across = in_true_from q t (end_unit b) (record { line = sym j.line ∙ sym (line_numbered b (b.last + 1)); low = (let y = j.high in omega arith); high = omega arith }) in
              let same : q.number ≡ b.last + 1 = ap (λ (z : Serial). z.number) (end q t e across) in
              absurd (let y = j.high in omega arith)
          | inr ge ↦ ge
        ]

    mine_in : (m : M) (u : Serial) → has (interval_at (first_unit b) (block_span b m)) u ≡ true → has_unit b u ≡ true
    mine_in m u h = h

    pub filled_parted : AreParted new
    filled_parted = record {
      ranges = each_new (λ q t. IsRange q.number t.last) (λ m g. range) (λ q t out e. parted.ranges q t e);
      apart = λ p l s t e f h.
          each_new (λ q x. has (interval_at q x) l ≡ true → q ≡ l)
          (λ m g i. each_new (λ z w. has (interval_at (first_unit b) (block_span b m)) z ≡ true → first_unit b ≡ z) (λ n g' j. refl) (λ z w out e' j. absurd (true≢false (sym (mine_in m z j) ∙ out))) l t f i)
          (λ q x out e' i. each_new (λ z w. has (interval_at q x) z ≡ true → q ≡ z) (λ n g' j. first q x e' j) (λ z w out' f' j. parted.apart q z x w e' f' j) l t f i)
          p s e h;
    }

    pub filled_mean : (f : Serial → Option M) → Mean old f → Mean new (λ u. cond (has_unit b u) given (f u))
    filled_mean f mean = record {
      gives = λ p u s e h.
          each_new (λ q t. has (interval_at q t) u ≡ true → cond (has_unit b u) given (f u) ≡ Some t.label)
          (λ m g i. rw (mine_in m u i) g)
          (λ q t out e' i. ap (λ x. cond x given (f u)) (false_from_ne_true _ (λ in'. outside q u t out e' i in')) ∙ mean.gives q u t e' i) p s e h;
      given = λ u m e. elim (cases_Bool (has_unit b u)) [
        | inl in' ↦
            let is : given ≡ Some m = rw in' at e in
            let here : new (first_unit b) ≡ Some (block_span b m) = puts (first_unit b) ∙ rw (first_in b range, at_self (first_unit b), is) refl in
            (first_unit b, block_span b m, here, in')
        | inr out ↦
            let g = mean.given u m (rw out at e) in
            let far : has_unit b g.0 ≡ false = false_from_ne_true _ (λ in'.
            let i = in_true g.0 g.1 u g.3 in
            let j = block_true b g.0 in' in
            let l = within g.0 g.1 in' g.2 in
            true≢false (sym (block_true_from b u (record { line = j.line ∙ i.line; low = (let x = i.low in let y = j.low in omega arith); high = (let x = i.high in omega arith) })) ∙ out)) in
            (g.0, g.1, puts g.0 ∙ filled_out b given old g.0 far ∙ g.2, g.3)
      ];
    }

    pub filled_cuts : (q : Serial) → (has_unit b q ≡ true → q ≡ first_unit b) → IsCutAt old q → IsCutAt new q
    filled_cuts q only cut = each_new (λ k s. has (interval_at k s) q ≡ true → k ≡ q) (λ m g i. sym (only (mine_in m q i))) (λ k s out e i. cut k s e i)

    pub filled_keys : (q : Serial) → has_unit b q ≡ false → IsSome (old q) → IsSome (new q)
    filled_keys q out some = subst (λ (o : Option (Span M)). IsSome o) (sym (puts q ∙ filled_out b given old q out)) some

    pub filled_seams : (q : Serial) → IsSeam new q → IsSeam old q ⊎ (reaches b q ≡ true)
    filled_seams q seam =
        each_new (λ w r. (p : Serial) (l : Span M) → new p ≡ Some l → GoesOn (interval_at p l) (interval_at w r) → IsSeam old w ⊎ (reaches b w ≡ true))
        (λ m g p l e goes. inr (between_true_from (first_unit b) (end_unit b) (first_unit b) (up_self (first_unit b)) (record { line = (let s = line_numbered b (b.last + 1) in omega arith); number = λ x. omega arith })))
        (λ w r out e p l f goes. each_new (λ k x. GoesOn (interval_at k x) (interval_at w r) → IsSeam old w ⊎ (reaches b w ≡ true))
        (λ m g on.
        let same = goes_line (first_unit b) w (block_span b m) r on in
        let s = line_numbered b (b.last + 1) in
        let n : b.last + 1 ≡ w.number = on.next in
        inr (between_true_from (first_unit b) (end_unit b) w (record { line = omega arith; number = λ x. omega arith }) (record { line = omega arith; number = λ x. omega arith })))
        (λ k x out' f' on. inl (record { before = k; left = x; right = r; first = f'; second = e; goes_on = on }))
        p l f goes)
        q seam.right seam.second seam.before seam.left seam.first seam.goes_on

  -- ---- both ends of a block

  begun_other : (v : Serial) (given : Option M) (f : Serial → Option M) (u : Serial) → (v ≡ u → ⊥) → begun v given f u ≡ f u
  begun_other v given f u other = ap (λ t. cond t (option_or (f u) given) (f u)) (at_false_from v u other)

  nothing_begun : (v : Serial) (f : Serial → Option M) (u : Serial) → begun v None f u ≡ f u
  nothing_begun v f u = elim (cases_Bool (is_at (unit_cmp v) u)) [
    | inl yes' ↦ rw yes' (or_none (f u))
    | inr no' ↦ rw no' refl
  ]
    where
      or_none : (o : Option M) → option_or o None ≡ o
      or_none None = refl
      or_none (Some m) = refl

  pub prepared : (b : RawBlock) (given : Option M) (old middle new : Held M) → IsRange b.first b.last → IsBegun (first_unit b) given old middle → IsBegun (end_unit b) None middle new → IsPrepared b given old new
  prepared b given old middle new range one two =
      let s = line_numbered b (b.last + 1) in
      record {
        parted = two.parted;
        means = λ f mean. (
          begun (end_unit b) None (begun (first_unit b) given f),
          two.means (begun (first_unit b) given f) (one.means f mean),
          λ u out. nothing_begun (end_unit b) (begun (first_unit b) given f) u ∙ begun_other (first_unit b) given f u (λ same. true≢false (sym (first_in b range) ∙ ap (has_unit b) same ∙ out)),
        );
        first = two.cuts (first_unit b) one.cut;
        end = two.cut;
        cuts = λ q c. two.cuts q (one.cuts q c);
        key = λ some. two.keys (first_unit b) (one.key some);
        keys = λ q some. two.keys q (one.keys q some);
        seams = λ q seam. elim (two.seams q seam) [
          | inl before ↦ elim (one.seams q before) [
            | inl there ↦ inl there
            | inr here ↦ elim here [
              | inl same ↦ inr (subst (λ z. reaches b z ≡ true) (sym same) (between_true_from (first_unit b) (end_unit b) (first_unit b) (up_self (first_unit b)) (record { line = omega arith; number = λ x. omega arith })))
              | inr next ↦ inr (subst (λ z. reaches b z ≡ true) (sym next.1) (let a = line_after (first_unit b) in between_true_from (first_unit b) (end_unit b) (after_unit (first_unit b)) (record { line = omega arith; number = λ x. omega arith }) (record { line = omega arith; number = λ x. omega arith })))
            ]
          ]
          | inr here ↦ elim here [
            | inl same ↦ inr (subst (λ z. reaches b z ≡ true) (sym same) (between_true_from (first_unit b) (end_unit b) (end_unit b) (record { line = omega arith; number = λ x. omega arith }) (up_self (end_unit b))))
            | inr next ↦ absurd (true≢false (sym next.0))
          ]
        ];
      }

  -- ---- one block more

  module _ (b : Block) (rest : List Block) (given : Option M) (old middle late new : Held M) (apart : AllApart (b ∷ rest))
      (one : IsPrepared b.raw given old middle) (set : AreSetIn rest middle late) (puts : (q : Serial) → new q ≡ filled b.raw given late q) where
    first_cut : IsCutAt late (first_unit b.raw)
    first_cut = set.cuts (first_unit b.raw) (not_within b.raw rest b.in_range apart.0) one.first

    end_cut : IsCutAt late (end_unit b.raw)
    end_cut = set.cuts (end_unit b.raw) (end_not_within b.raw rest b.in_range apart.0) one.end

    pub set_more : AreSetIn (b ∷ rest) old new
    set_more = record {
      parted = filled_parted b.raw given late new b.in_range set.parted first_cut end_cut puts;
      cuts = λ q only c. filled_cuts b.raw given late new b.in_range set.parted first_cut end_cut puts q only.0 (set.cuts q only.1 (one.cuts q c));
      keys = λ q out some. let two = or_parts (has_unit b.raw q) (covers rest q) out in filled_keys b.raw given late new b.in_range set.parted first_cut end_cut puts q two.0 (set.keys q two.1 (one.keys q some));
      seams = λ q seam. elim (filled_seams b.raw given late new b.in_range set.parted first_cut end_cut puts q seam) [
        | inl before ↦ elim (set.seams q before) [
          | inl earlier ↦ elim (one.seams q earlier) [
            | inl there ↦ inl there
            | inr near ↦ inr (or_left (reaches b.raw q) (reached rest q) near)
          ]
          | inr near ↦ inr (or_right (reaches b.raw q) (reached rest q) near)
        ]
        | inr near ↦ inr (or_left (reaches b.raw q) (reached rest q) near)
      ];
    }

    pub means_more : (gives : Block → Option M) → given ≡ gives b → ((f : Serial → Option M) → Mean middle f → Mean late (set_to gives rest f)) → (f : Serial → Option M) → Mean old f → Mean new (set_to gives (b ∷ rest) f)
    means_more gives is later f mean =
        let g = one.means f mean in
        mean_same new (λ u. cond (has_unit b.raw u) given (set_to gives rest g.0 u)) (set_to gives (b ∷ rest) f) (λ u. elim (cases_Bool (has_unit b.raw u)) [
          | inl in' ↦ rw in' (sym is)
          | inr out ↦ rw out (ap (option_map_or gives (find (λ (o : Block). has_unit o.raw u) rest)) (sym (g.2 u out)))
        ]) (filled_mean b.raw given late new b.in_range set.parted first_cut end_cut puts (set_to gives rest g.0) (later g.0 g.1))

  -- the key at which the block's span is to stand
  pub still_key : (b : Block) (rest : List Block) (given : Option M) (old middle late : Held M) → AllApart (b ∷ rest) → IsPrepared b.raw given old middle → AreSetIn rest middle late → IsSome given → IsSome (late (first_unit b.raw))
  still_key b rest given old middle late apart one set some = set.keys (first_unit b.raw) (no_block b.raw rest (first_unit b.raw) apart.0 (first_in b.raw b.in_range)) (one.key some)

  -- ---- the spans that are left after those within a block were taken out

  abbrev Gives : (M → Option M → Type 0) → Type 0
  Gives R = (m : M) (r : Option M) → R m r → r ≡ None

  taken : (R : M → Option M → Type 0) → Gives R → (o n : Option (Span M)) → IsChanged R o n → n ≡ None
  taken R none None n changed = changed
  taken R none (Some s) n changed = changed.2 ∙ ap (relabelled s) (none s.label changed.0 changed.1)

  pub filled_with_none : (R : M → Option M → Type 0) (b : RawBlock) (old new : Held M) → Gives R
      → ((q : Serial) → is_between (first_unit b) (unit_numbered b b.last) q ≡ true → IsChanged R (old q) (new q))
      → ((q : Serial) → is_between (first_unit b) (unit_numbered b b.last) q ≡ false → new q ≡ old q)
      → (q : Serial) → new q ≡ filled b None old q
  filled_with_none R b old new none inside outside q = elim (cases_Bool (has_unit b q)) [
    | inl in' ↦ taken R none (old q) (new q) (inside q (in_between b q in')) ∙ rw in' (sym (either_same (is_at (unit_cmp (first_unit b)) q) None))
    | inr out ↦ outside q (false_from_ne_true _ (λ h. true≢false (sym (between_block b (first_unit b) q (up_self (first_unit b)) h) ∙ out))) ∙ rw out refl
  ]
    where
      either_same : (t : Bool) (o : Option (Span M)) → cond t o o ≡ o
      either_same true o = refl
      either_same false o = refl

  pub filled_with_some : (R : M → Option M → Type 0) (b : RawBlock) (m : M) (old middle new : Held M) → Gives R → IsRange b.first b.last
      → ((q : Serial) → is_between (after_unit (first_unit b)) (unit_numbered b b.last) q ≡ true → IsChanged R (old q) (middle q))
      → ((q : Serial) → is_between (after_unit (first_unit b)) (unit_numbered b b.last) q ≡ false → middle q ≡ old q)
      → Puts (first_unit b) (Some (block_span b m)) middle new → (q : Serial) → new q ≡ filled b (Some m) old q
  filled_with_some R b m old middle new none range inside out' puts q = elim (cases_Bool (has_unit b q)) [
    | inl in' ↦ elim (one_unit (first_unit b) q) [
      | inl same ↦ subst (λ z. new z ≡ filled b (Some m) old z) same (put_here (first_unit b) (Some (block_span b m)) middle new puts ∙ sym (rw (first_in b range, at_self (first_unit b)) refl))
      | inr other ↦
          put_other (first_unit b) (Some (block_span b m)) middle new puts q other
          ∙ taken R none (old q) (middle q) (inside q (behind_first b q in' other)) ∙ rw (in', at_false_from (first_unit b) q other) refl
    ]
    | inr out ↦
        put_other (first_unit b) (Some (block_span b m)) middle new puts q (λ same. true≢false (sym (first_in b range) ∙ ap (has_unit b) same ∙ out))
        ∙ out' q (false_from_ne_true _ (λ h. true≢false (sym (between_block b (after_unit (first_unit b)) q (up_from_before (first_unit b) (after_unit (first_unit b)) (itself_after (first_unit b))) h) ∙ out)))
        ∙ rw out refl
  ]

  -- the key at which the block's span is to stand is none of those that are taken out
  pub first_stays : (b : RawBlock) (old middle : Held M) (f a l : Serial) → f ≡ first_unit b → a ≡ after_unit f → ((q : Serial) → is_between a l q ≡ false → middle q ≡ old q) → IsSome (old (first_unit b)) → IsSome (middle f)
  first_stays b old middle f a l is_first is_after out some =
      subst (λ (o : Option (Span M)). IsSome o) (sym (out f (between_false_from a l f (λ x y. not_both f (after_unit f) (itself_after f) (subst (λ z. UpTo z f) is_after x))))) (subst (λ z. IsSome (old z)) (sym is_first) some)

  -- the same, where the ends have other names
  pub filled_some_at : (R : M → Option M → Type 0) (b : RawBlock) (m : M) (old middle new : Held M) (f a l : Serial) → f ≡ first_unit b → a ≡ after_unit f → l ≡ unit_numbered b b.last → Gives R → IsRange b.first b.last
      → ((q : Serial) → is_between a l q ≡ true → IsChanged R (old q) (middle q)) → ((q : Serial) → is_between a l q ≡ false → middle q ≡ old q)
      → Puts f (Some (block_span b m)) middle new → (q : Serial) → new q ≡ filled b (Some m) old q
  filled_some_at R b m old middle new f a l is_first is_after is_last none range inside out puts =
      let same = λ (q : Serial). ap (λ z. is_between z l q) (is_after ∙ ap after_unit is_first) ∙ ap (λ z. is_between (after_unit (first_unit b)) z q) is_last in
      filled_with_some R b m old middle new none range (λ q h. inside q (same q ∙ h)) (λ q h. out q (same q ∙ h)) (subst (λ z. Puts z (Some (block_span b m)) middle new) is_first puts)

  pub filled_none_at : (R : M → Option M → Type 0) (b : RawBlock) (old new : Held M) (f l : Serial) → f ≡ first_unit b → l ≡ unit_numbered b b.last → Gives R
      → ((q : Serial) → is_between f l q ≡ true → IsChanged R (old q) (new q)) → ((q : Serial) → is_between f l q ≡ false → new q ≡ old q)
      → (q : Serial) → new q ≡ filled b None old q
  filled_none_at R b old new f l is_first is_last none inside out =
      let same = λ (q : Serial). ap (λ z. is_between z l q) is_first ∙ ap (λ z. is_between (first_unit b) z q) is_last in
      filled_with_none R b old new none (λ q h. inside q (same q ∙ h)) (λ q h. out q (same q ∙ h))
