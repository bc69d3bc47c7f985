-- for crates above: the moments of a play, one after the other, under any rules
use Rattle.std.proofs.Common.{◌≡◌, ◌≢◌, ℕ, suc, ◌+◌, ◌-◌, ◌≤◌, ◌<◌, ◌^◌, List, [], ◌∷◌, ◌++◌, true, false, Some, refl, sym, ap, ◌∙◌, arith, append_assoc, append-nil, ◌==◌, min, length, length-append}
use Rattle.std.specs.Prelude.{nat_le}
use Rattle.std.specs.Option.{option_map}
use Rattle.std.proofs.lemmas.Bool.{eq-eqb, le-leb, ne_eqb}
use Rattle.std.proofs.lemmas.Bool.Decides.{nat_tests}
use Rattle.std.proofs.lemmas.List.Concat.{flat_map-append}
use Rattle.std.proofs.lemmas.List.Sums.{fold-append}
use Rattle.tm_report.specs.Lines.{line_text, report_text}
use Rattle.tm_script.specs.declared.syntax.Moment.{Moment}
use Rattle.play_rules.specs.Rules.{Rules}
use Rattle.play_rules.specs.Parts.{Prints, Progress, counted}
use Rattle.play_rules.specs.Tallies.{tallied, tallied_all}
use Rattle.play_rules.specs.Interrupts.{Replies}
use Rattle.play_rules.specs.Moments.{Turn, finished, last_state, moments_after, next_moment, spent_at, turn, turn_lines, turn_then, turns}
use Rattle.play_driver.specs.Outcomes.{BreaksOff, PlaysOut}

module _ {S : Type 0} (jobs : Replies) (r : Rules S) (end : ℕ) where
  -- a moment before the end, and those behind it
  pub turns_more : (m now : ℕ) (ms : List Moment) (s next : S) → now < end → next ≡ (turn jobs r ms now s).played.state
      → turns jobs r (suc m) end now ms s
      ≡ turn jobs r ms now s ∷ turns jobs r m end (next_moment r end (moments_after now ms) next) (moments_after now ms) next
  unfolding turns
  turns_more m now ms s next low state =
      let other : now ≢ end = λ same. omega (arith, same, low) in
      rw (ne_eqb now end other)
      (ap (λ u. turn jobs r ms now s ∷ turns jobs r m end (next_moment r end (moments_after now ms) u) (moments_after now ms) u) (sym state))

  -- the last moment
  pub turns_last : (m now : ℕ) (ms : List Moment) (s : S) → now ≡ end → turns jobs r (suc m) end now ms s ≡ turn jobs r ms now s ∷ []
  unfolding turns
  turns_last m now ms s is = rw (eq-eqb now end is) refl

  pub turns_some : (m now : ℕ) (ms : List Moment) (s : S) → (x : Turn S) × (xs : List (Turn S)) × (turns jobs r (suc m) end now ms s ≡ x ∷ xs)
  unfolding turns
  turns_some m now ms s =
      elim (now == end) as (λ b. (x : Turn S) × (xs : List (Turn S))
      × (turn_then b (λ t. turns jobs r m end (next_moment r end (moments_after now ms) t) (moments_after now ms) t) (turn jobs r ms now s) ≡ x ∷ xs)) [
        | true ↦ (turn jobs r ms now s, [], refl)
        | false ↦ (turn jobs r ms now s, turns jobs r m end (next_moment r end (moments_after now ms) (turn jobs r ms now s).played.state) (moments_after now ms) (turn jobs r ms now s).played.state, refl)
      ]

-- reading the count of work off a list of moments
module _ {S : Type 0} (limit w : ℕ) (t : Turn S) where
  pub spent_more : (rest : List (Turn S)) (u : Turn S) (us : List (Turn S)) → rest ≡ u ∷ us → nat_le limit (w + t.played.work) ≡ false
      → spent_at limit w (t ∷ rest) ≡ spent_at limit (w + t.played.work) rest
  spent_more rest u us is below = rw (is, below) refl

  pub spent_here : (rest : List (Turn S)) (u : Turn S) (us : List (Turn S)) → rest ≡ u ∷ us → nat_le limit (w + t.played.work) ≡ true
      → spent_at limit w (t ∷ rest) ≡ Some (w + t.played.work)
  spent_here rest u us is reached = rw (is, reached) refl

  pub finished_more : (rest : List (Turn S)) → nat_le limit (w + t.played.work) ≡ false
      → finished limit w (t ∷ rest) ≡ t ∷ finished limit (w + t.played.work) rest
  finished_more rest below = rw below refl

  pub finished_here : (rest : List (Turn S)) → nat_le limit (w + t.played.work) ≡ true → finished limit w (t ∷ rest) ≡ t ∷ []
  finished_here rest reached = rw reached refl

pub last_push : {S : Type 0} (start : S) (ts : List (Turn S)) (t : Turn S) → last_state start (ts ++ t ∷ []) ≡ t.played.state
last_push start [] t = refl
last_push start (u ∷ ts) t = last_push u.played.state ts t

pub turn_lines_push : {S : Type 0} (ts : List (Turn S)) (t : Turn S) → turn_lines (ts ++ t ∷ []) ≡ turn_lines ts ++ t.played.lines
turn_lines_push ts t =
    flat_map-append (λ u. u.played.lines) ts (t ∷ []) ∙ ap (λ ls. turn_lines ts ++ ls) (append-nil t.played.lines)

-- one element more is counted
one_counted : {A : Type 0} (xs : List A) (x : A) (n : ℕ) → n ≡ counted (length xs)
    → min (n + 1) (2 ^ 32 - 1) ≡ counted (length (xs ++ x ∷ []))
one_counted xs x n is = omega (arith, is, length-append xs (x ∷ []))

-- what was told of the finished moments, and what is still to come
pub record SoFar {S : Type 0} (jobs : Replies) (r : Rules S) (end limit : ℕ) (whole : List (Turn S)) (start : S) (old : Progress)
    (now : ℕ) (ms : List Moment) (s : S) (told : Progress) (played : ℕ) : Type 0 where
  pub done : List (Turn S)
  pub count : ℕ
  pub work : ℕ
  pub few : count ≤ now
  pub moments : played ≡ counted (length done)
  pub split : whole ≡ done ++ turns jobs r (end + 1 - count) end now ms s
  pub text : told.text ≡ old.text ++ report_text (turn_lines done)
  pub tally : told.tally ≡ tallied_all old.tally (turn_lines done)
  pub worked : counted told.work ≡ counted work
  pub state : s ≡ last_state start done
  pub spent : spent_at limit 0 whole ≡ spent_at limit work (turns jobs r (end + 1 - count) end now ms s)
  pub ended : finished limit 0 whole ≡ done ++ finished limit work (turns jobs r (end + 1 - count) end now ms s)

pub below_test : (a b : ℕ) → b < a → nat_le a b ≡ false
below_test a b low = grind (arith, nat_tests)

pub work_more : (a b c d : ℕ) → counted a ≡ counted (b + c) → counted b ≡ counted d → counted a ≡ counted (d + c)
work_more a b c d first second = omega (arith, first, second)

module _ {S : Type 0} (jobs : Replies) (r : Rules S) (end limit : ℕ) (whole : List (Turn S)) (start : S) (old : Progress) where
  pub nothing_yet : (ms : List Moment) → whole ≡ turns jobs r (end + 1) end 0 ms start → old.work ≡ 0
      → SoFar jobs r end limit whole start old 0 ms start old 0
  nothing_yet ms is none = let all : end + 1 ≡ end + 1 - 0 = omega arith in record {
    done = [];
    count = 0;
    work = 0;
    few = omega arith;
    moments = refl;
    split = is ∙ ap (λ k. turns jobs r k end 0 ms start) all;
    text = sym (append-nil old.text);
    tally = refl;
    worked = ap counted none;
    state = refl;
    spent = ap (spent_at limit 0) (is ∙ ap (λ k. turns jobs r k end 0 ms start) all);
    ended = ap (finished limit 0) (is ∙ ap (λ k. turns jobs r k end 0 ms start) all);
  }

  module _ (now : ℕ) (ms : List Moment) (s : S) (told : Progress) (played : ℕ) (far : SoFar jobs r end limit whole start old now ms s told played)
      (next : S) (new : Progress) (printed : Prints (turn jobs r ms now s).played told new next) where
    lines_then : new.text ≡ old.text ++ report_text (turn_lines (far.done ++ turn jobs r ms now s ∷ []))
    lines_then =
        printed.text
        ∙ ap (λ x. x ++ report_text (turn jobs r ms now s).played.lines) far.text
        ∙ append_assoc old.text (report_text (turn_lines far.done)) (report_text (turn jobs r ms now s).played.lines)
        ∙ ap (λ x. old.text ++ x)
        (sym (flat_map-append line_text (turn_lines far.done) (turn jobs r ms now s).played.lines)
        ∙ ap report_text (sym (turn_lines_push far.done (turn jobs r ms now s))))

    tally_then : new.tally ≡ tallied_all old.tally (turn_lines (far.done ++ turn jobs r ms now s ∷ []))
    tally_then =
        printed.tally
        ∙ ap (λ x. tallied_all x (turn jobs r ms now s).played.lines) far.tally
        ∙ sym (fold-append tallied old.tally (turn_lines far.done) (turn jobs r ms now s).played.lines)
        ∙ ap (tallied_all old.tally) (sym (turn_lines_push far.done (turn jobs r ms now s)))

    work_then : counted new.work ≡ counted (far.work + (turn jobs r ms now s).played.work)
    work_then = work_more new.work told.work (turn jobs r ms now s).played.work far.work printed.work far.worked

    module _ (low : now < end) where
      fuel : end + 1 - far.count ≡ suc (suc (end - far.count - 1))
      fuel = omega (arith, far.few, low)

      abbrev rest : List (Turn S)
      rest = turns jobs r (suc (end - far.count - 1)) end (next_moment r end (moments_after now ms) next) (moments_after now ms) next

      here : turns jobs r (end + 1 - far.count) end now ms s ≡ turn jobs r ms now s ∷ rest
      here = ap (λ k. turns jobs r k end now ms s) fuel ∙ turns_more jobs r end (suc (end - far.count - 1)) now ms s next low printed.state

      -- the work is below its limit: on to the next moment
      pub one_more : (count : ℕ) → count ≡ min (played + 1) (2 ^ 32 - 1) → new.work < limit → limit < 2 ^ 32 → now < next_moment r end (moments_after now ms) next
          → SoFar jobs r end limit whole start old (next_moment r end (moments_after now ms) next) (moments_after now ms) next new count
      one_more count counts less small later =
          let below : nat_le limit (far.work + (turn jobs r ms now s).played.work) ≡ false = below_test _ _ (omega (arith, work_then, less, small)) in
          let some = turns_some jobs r end (end - far.count - 1) (next_moment r end (moments_after now ms) next) (moments_after now ms) next in
          let left : suc (end - far.count - 1) ≡ end + 1 - (far.count + 1) = omega (arith, far.few, low) in
          let behind : rest ≡ turns jobs r (end + 1 - (far.count + 1)) end (next_moment r end (moments_after now ms) next) (moments_after now ms) next =
          ap (λ k. turns jobs r k end (next_moment r end (moments_after now ms) next) (moments_after now ms) next) left in
          record {
            done = far.done ++ turn jobs r ms now s ∷ [];
            count = far.count + 1;
            work = far.work + (turn jobs r ms now s).played.work;
            few = omega (arith, far.few, later);
            moments = counts ∙ one_counted far.done (turn jobs r ms now s) played far.moments;
            split =
                far.split ∙ ap (λ x. far.done ++ x) (here ∙ ap (λ x. turn jobs r ms now s ∷ x) behind)
                ∙ sym (append_assoc far.done (turn jobs r ms now s ∷ []) _);
            text = lines_then;
            tally = tally_then;
            worked = work_then;
            state = printed.state ∙ sym (last_push start far.done (turn jobs r ms now s));
            spent =
                far.spent ∙ ap (spent_at limit far.work) here
                ∙ spent_more limit far.work (turn jobs r ms now s) rest some.0 some.1 some.2 below
                ∙ ap (spent_at limit (far.work + (turn jobs r ms now s).played.work)) behind;
            ended =
                far.ended ∙ ap (λ x. far.done ++ finished limit far.work x) here
                ∙ ap (λ x. far.done ++ x) (finished_more limit far.work (turn jobs r ms now s) rest below ∙ ap (λ x. turn jobs r ms now s ∷ finished limit (far.work + (turn jobs r ms now s).played.work) x) behind)
                ∙ sym (append_assoc far.done (turn jobs r ms now s ∷ []) _);
          }

      -- the work has reached its limit
      pub breaks_off : (count : ℕ) → limit ≤ count → count ≡ new.work → count < 2 ^ 32 → BreaksOff limit count whole old.text new.text
      breaks_off count enough is small =
          let some = turns_some jobs r end (end - far.count - 1) (next_moment r end (moments_after now ms) next) (moments_after now ms) next in
          let same : counted (far.work + (turn jobs r ms now s).played.work) ≡ count = omega (arith, work_then, is, small) in
          let reached : nat_le limit (far.work + (turn jobs r ms now s).played.work) ≡ true = le-leb _ _ (omega (arith, same, enough)) in
          record {
            spent =
                ap (option_map counted)
                (far.spent ∙ ap (spent_at limit far.work) here ∙ spent_here limit far.work (turn jobs r ms now s) rest some.0 some.1 some.2 reached)
                ∙ ap Some same;
            text =
                lines_then
                ∙ ap (λ x. old.text ++ report_text (turn_lines x))
                (sym (far.ended ∙ ap (λ x. far.done ++ finished limit far.work x) here
                ∙ ap (λ x. far.done ++ x) (finished_here limit far.work (turn jobs r ms now s) rest reached)));
          }

    -- the last moment
    pub all_counted : now ≡ end → (count : ℕ) → count ≡ min (played + 1) (2 ^ 32 - 1) → count ≡ counted (length whole)
    all_counted last count counts =
        let fuel : end + 1 - far.count ≡ suc (end - far.count) = omega (arith, far.few, last) in
        let here : turns jobs r (end + 1 - far.count) end now ms s ≡ turn jobs r ms now s ∷ [] =
        ap (λ k. turns jobs r k end now ms s) fuel ∙ turns_last jobs r end (end - far.count) now ms s last in
        let all : whole ≡ far.done ++ turn jobs r ms now s ∷ [] = far.split ∙ ap (λ x. far.done ++ x) here in
        counts ∙ one_counted far.done (turn jobs r ms now s) played far.moments ∙ ap (λ (x : List (Turn S)). counted (length x)) (sym all)

    pub all_done : now ≡ end → PlaysOut limit whole start old new next
    all_done last =
        let fuel : end + 1 - far.count ≡ suc (end - far.count) = omega (arith, far.few, last) in
        let here : turns jobs r (end + 1 - far.count) end now ms s ≡ turn jobs r ms now s ∷ [] =
        ap (λ k. turns jobs r k end now ms s) fuel ∙ turns_last jobs r end (end - far.count) now ms s last in
        let all : whole ≡ far.done ++ turn jobs r ms now s ∷ [] = far.split ∙ ap (λ x. far.done ++ x) here in
        record {
          told = record {
            text = lines_then ∙ ap (λ x. old.text ++ report_text (turn_lines x)) (sym all);
            tally = tally_then ∙ ap (λ x. tallied_all old.tally (turn_lines x)) (sym all);
            state = printed.state ∙ sym (last_push start far.done (turn jobs r ms now s)) ∙ ap (last_state start) (sym all);
          };
          within = far.spent ∙ ap (spent_at limit far.work) here;
        }
