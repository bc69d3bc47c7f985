-- for crates above: the `cover` lines of a state are true, and each CPU that needs one has one
use Rattle.std.proofs.Common.{◌≡◌, ℕ, zero, suc, ◌+◌, ◌<◌, ◌≤◌, List, [], ◌∷◌, true}
use Rattle.std.proofs.Common.{Option, Some, None, refl, sym, ap, ◌∙◌, subst, arith, inl, inr}
use Rattle.std.specs.Prelude.{◌≢◌, All, Contains, option_map}
use Rattle.std.proofs.lemmas.Bool.{and_from, and_parts, cases_Bool, cases_eq, cond-false, cond-true}
use Rattle.std.proofs.lemmas.List.Elements.{All-cons, All-nil, Contains-append_left}
use Rattle.std.proofs.lemmas.List.Elements.{Contains-append_right, Contains-push}
use Rattle.std.proofs.lemmas.Option.{none-some, same_Some}
use Rattle.tm_report.specs.declared.lines.Line.{Line}
use Rattle.tm_report.specs.declared.lines.Line.TheVariants as lines
use Rattle.wheel_core.specs.PlainBase.{least}
use Rattle.wheel_core.proofs.Leasts.{least_none}
use Rattle.play_rules.specs.declared.asks.Answerer.{Answerer}
use Rattle.play_rules.specs.Covers.{answerer, cover_of, cover_where}
use Rattle.play_rules.specs.Interrupts.{cpu_id}
use Rattle.play_rules.specs.Operations.{cover_lines, cover_or}
use Rattle.play_rules.specs.State.{State, cpu_at, cpu_count}
use Rattle.play_rules.specs.Play.{plain_rules}
use Rattle.play_laws.specs.Told.Covers.{CpusAscend, IsTrueCover, IsTrueOf}
use Rattle.play_laws.specs.Told.Covers.{TellCovers}
use Rattle.play_laws.proofs.Answered.Covered.{some_or_none}
use Rattle.play_laws.proofs.Answered.Invariant.{rests}
use Rattle.play_laws.proofs.Answered.States.{IsKept, Nobody}
use Rattle.play_laws.proofs.Told.Answers.{chosen}

module _ (s : State) (kept : IsKept Nobody (Unit {0}) s) where
  -- ONE CPU: what its line shows is true
  module _ (c : ℕ) (low : c < cpu_count s) (a : Answerer) where
    true_where : rests (cpu_at s c) ≡ true → (o : Option ℕ)
        → least (cpu_at s c).bases.bases.global.items ≡ o → cover_where s c o ≡ Some a
        → IsTrueOf s s.clock c a.wheel a.cover
    true_where rest None first is = absurd (none-some a is)
    true_where rest (Some wheel) first is =
        let all = chosen s kept c wheel low rest first in
        let both = and_parts (cpu_at s c).online (cpu_at s c).idle rest in
        let same : answerer wheel all.cover ≡ a =
        same_Some (answerer wheel all.cover) a
        (sym (ap (option_map (answerer wheel)) all.is) ∙ is) in
        subst (λ (x : Answerer). IsTrueOf s s.clock c x.wheel x.cover) same (record {
          time = refl;
          in_range = low;
          online = both.0;
          idle = both.1;
          first = first;
          answers = all.answers;
        })

    true_one : cover_of s c ≡ Some a → IsTrueOf s s.clock c a.wheel a.cover
    true_one is =
        let first = least (cpu_at s c).bases.bases.global.items in
        elim (cases_Bool (rests (cpu_at s c))) [
          | inl rest ↦
              true_where rest first refl
              (sym (cond-true (rests (cpu_at s c)) (cover_where s c first) None rest) ∙ is)
          | inr not ↦
              absurd
              (none-some a
              (sym (cond-false (rests (cpu_at s c)) (cover_where s c first) None not) ∙ is))
        ]

  -- and where it has a global timer, it has one
  some_cover : (c : ℕ) → c < cpu_count s → rests (cpu_at s c) ≡ true
      → (cpu_at s c).bases.bases.global.items ≢ [] → (a : Answerer) × (cover_of s c ≡ Some a)
  some_cover c low rest some =
      let items = (cpu_at s c).bases.bases.global.items in
      elim (some_or_none (least items)) [
        | inl none ↦ absurd (some (least_none items none))
        | inr first ↦
            let all = chosen s kept c first.0 low rest first.1 in (
              answerer first.0 all.cover,
              cond-true (rests (cpu_at s c)) (cover_where s c (least items)) None rest
                  ∙ (ap (cover_where s c) first.1
                  ∙ ap (option_map (answerer first.0)) all.is),
            )
      ]

  -- THE LINES
  abbrev rest_of : (n c : ℕ) → List Line
  rest_of n c = cover_lines plain_rules n c s

  or_true : (c : ℕ) (o : Option Answerer) (others : List Line) → c < cpu_count s
      → cover_of s c ≡ o → All (IsTrueCover s) others
      → All (IsTrueCover s) (cover_or plain_rules o c s others)
  or_true c None others low is rest = rest
  or_true c (Some a) others low is rest =
      All-cons (IsTrueCover s) (lines.Cover s.clock (cpu_id c) a.wheel a.cover) others
      (true_one c low a is) rest

  all_true : (n c : ℕ) → c + n ≡ cpu_count s → All (IsTrueCover s) (rest_of n c)
  unfolding cover_lines
  all_true zero c all = All-nil (IsTrueCover s)
  all_true (suc n) c all =
      or_true c (cover_of s c) (rest_of n (c + 1)) (omega (arith, all)) refl
      (all_true n (c + 1) (omega (arith, all)))

  one_ascends : (from c : ℕ) (o : Option Answerer) (others : List Line) → from ≤ c
      → ((a : ℕ) → a ≤ c + 1 → CpusAscend a others)
      → CpusAscend from (cover_or plain_rules o c s others)
  one_ascends from c None others low rest = rest from (omega (arith, low))
  one_ascends from c (Some a) others low rest = (low, rest (c + 1) (omega arith))

  all_ascend : (n c from : ℕ) → from ≤ c → CpusAscend from (rest_of n c)
  unfolding cover_lines
  all_ascend zero c from low = tt
  all_ascend (suc n) c from low =
      one_ascends from c (cover_of s c) (rest_of n (c + 1)) low
      (λ a by. all_ascend n (c + 1) a by)

  one_there : (c : ℕ) (o : Option Answerer) (others : List Line) (a : Answerer) → o ≡ Some a
      → Contains (cover_or plain_rules o c s others)
      (lines.Cover s.clock (cpu_id c) a.wheel a.cover)
  one_there c None others a is = absurd (none-some a is)
  one_there c (Some b) others a is =
      let line = lines.Cover s.clock (cpu_id c) b.wheel b.cover in
      subst
      (λ (x : Answerer).
      Contains (line ∷ others) (lines.Cover s.clock (cpu_id c) x.wheel x.cover))
      (same_Some b a is)
      (Contains-append_left (line ∷ []) others line (Contains-push [] line))

  one_behind : (c : ℕ) (o : Option Answerer) (others : List Line) (line : Line)
      → Contains others line → Contains (cover_or plain_rules o c s others) line
  one_behind c None others line is = is
  one_behind c (Some a) others line is =
      Contains-append_right (lines.Cover s.clock (cpu_id c) a.wheel a.cover ∷ []) others line is

  among : (n c d : ℕ) (a : Answerer) → c ≤ d → d < c + n → cover_of s d ≡ Some a
      → Contains (rest_of n c) (lines.Cover s.clock (cpu_id d) a.wheel a.cover)
  unfolding cover_lines
  among zero c d a from below is = absurd (omega (arith, from, below))
  among (suc n) c d a from below is =
      elim (cases_eq c d) [
        | inl same ↦
            subst
            (λ k.
            Contains (cover_or plain_rules (cover_of s c) c s (rest_of n (c + 1)))
            (lines.Cover s.clock (cpu_id k) a.wheel a.cover))
            same
            (one_there c (cover_of s c) (rest_of n (c + 1)) a (ap (cover_of s) same ∙ is))
        | inr other ↦
            one_behind c (cover_of s c) (rest_of n (c + 1)) _
            (among n (c + 1) d a (omega (arith, from, other)) (omega (arith, below)) is)
      ]

  pub covers_are_told : TellCovers s (cover_lines plain_rules (cpu_count s) 0 s)
  covers_are_told = record {
    true_each = all_true (cpu_count s) 0 (omega arith);
    ascend = all_ascend (cpu_count s) 0 0 (omega arith);
    all_told = λ c low online idle some.
        let rest = and_from (cpu_at s c).online (cpu_at s c).idle online idle in
        let a = some_cover c low rest some in
        record {
          wheel = a.0.wheel;
          cover = a.0.cover;
          there = among (cpu_count s) 0 c a.0 (omega arith) (omega (arith, low)) a.1;
        };
  }
