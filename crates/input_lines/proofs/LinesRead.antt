-- Lines that are read one after another; each of them writes something.
use Rattle.std.proofs.Common.{◌≡◌, ◌==◌, true, false, true≢false, Result, Ok, Err, IfErr, ℕ, suc, ◌+◌, ◌<◌, ◌≤◌, List, [], ◌∷◌, ◌++◌, length, sym, ap, subst, arith, append_assoc, append-nil, length-append}
use Rattle.std.specs.Result.{IsErrAnd}
use Rattle.std.proofs.lemmas.Bool.{eqb-true}
use Rattle.std.proofs.lemmas.List.{nil_from_length}
use Rattle.command_faults.specs.declared.fault.Cause.{Cause}
use Rattle.input_lines.specs.Lines.{AreLines, IsFaultAfter, IsLine, room_after}

-- ---- what tests and faults say

pub is_none : (rest : List ℕ) → true ≡ (length rest == 0) → length rest ≡ 0
is_none rest e = eqb-true _ _ (sym e)

pub is_some : (rest : List ℕ) → false ≡ (length rest == 0) → 0 < length rest
is_some [] e = absurd (true≢false (sym e))
is_some (x ∷ rest) e = omega arith

pub stops_so : {T E : Type 0} (P : E → Type 0) (f : E) (r : Result T E) → IsErrAnd r (λ e. e ≡ f) → P f → IfErr r P
stops_so P f (Ok t) same wrong = tt
stops_so P f (Err e) same wrong = subst P (sym same) wrong

-- ---- lines

length_line : (bytes line rest : List ℕ) → bytes ≡ line ++ 10 ∷ rest → length bytes ≡ length line + (1 + length rest)
length_line bytes line rest e = let all = ap length e in let sum : length (line ++ 10 ∷ rest) ≡ length line + length (10 ∷ rest) = length-append line (10 ∷ rest) in omega arith

module _ {X : Type 0} (Writes : List ℕ → X → Type 0) where
  -- what was read so far: where the rest is lines of more things, or has a fault, the whole is lines of all of them, or
  -- has that fault later
  pub record HasReadTo (lines : List ℕ) (all : ℕ) (rest : List ℕ) (room : ℕ) (done : List X) : Type 0 where
    pub few : length done + length rest ≤ length lines
    pub more : (xs : List X) → AreLines Writes rest room xs → AreLines Writes lines all (done ++ xs)
    pub fault : (good : ℕ) (cause : Cause) → IsFaultAfter Writes rest room good cause → IsFaultAfter Writes lines all (length done + good) cause

  pub read_none : (lines : List ℕ) (all : ℕ) → HasReadTo lines all lines all []
  read_none lines all = record {
    few = omega arith;
    more = λ xs are. are;
    fault = λ good cause wrong. let same : good ≡ 0 + good = omega arith in subst (λ (k : ℕ). IsFaultAfter Writes lines all k cause) same wrong;
  }

  pub read_more : (lines : List ℕ) (all : ℕ) (rest : List ℕ) (room : ℕ) (done : List X) (words others : List ℕ) (left : ℕ) (x : X) → HasReadTo lines all rest room done
      → IsLine rest room words others → Writes words x → left ≡ room_after room words → HasReadTo lines all others left (done ++ x ∷ [])
  read_more lines all rest room done words others left x read line writes is = record {
    few = omega (arith, read.few, length_line rest words others line.begins.spelled, length-append done (x ∷ []));
    more = λ xs are.
        subst (λ (l : List X). AreLines Writes lines all l) (sym (append_assoc done (x ∷ []) xs))
        (read.more (x ∷ xs) (words, others, line, writes, subst (λ (r : ℕ). AreLines Writes others r xs) is are));
    fault = λ good cause wrong.
        let same : length done + suc good ≡ length (done ++ x ∷ []) + good = omega (arith, length-append done (x ∷ [])) in
        subst (λ (k : ℕ). IsFaultAfter Writes lines all k cause) same
        (read.fault (suc good) cause (words, others, x, line, writes, subst (λ (r : ℕ). IsFaultAfter Writes others r good cause) is wrong));
  }

  -- the fault of the next line
  pub read_fault : (lines : List ℕ) (all : ℕ) (rest : List ℕ) (room : ℕ) (done : List X) (cause : Cause) → HasReadTo lines all rest room done → IsFaultAfter Writes rest room 0 cause → IsFaultAfter Writes lines all (length done) cause
  read_fault lines all rest room done cause read wrong =
      let same : length done + 0 ≡ length done = omega arith in
      subst (λ (k : ℕ). IsFaultAfter Writes lines all k cause) same (read.fault 0 cause wrong)

  pub read_all : (lines : List ℕ) (all : ℕ) (rest : List ℕ) (room : ℕ) (done : List X) → HasReadTo lines all rest room done → length rest ≡ 0 → AreLines Writes lines all done
  read_all lines all rest room done read none =
      subst (λ (l : List X). AreLines Writes lines all l) (append-nil done) (read.more [] (nil_from_length rest none))
