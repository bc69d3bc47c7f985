-- for crates above: how a CPU stands as its pass grows
use Rattle.std.proofs.Common.{◌≡◌, ℕ, zero, suc, ◌<◌, ◌≤◌, List, [], ◌∷◌, ◌++◌, Some, refl, sym, ap}
use Rattle.std.proofs.Common.{◌∙◌, subst, arith, length, length-append, map, Bool, true, false}
use Rattle.std.proofs.Common.{eqb-true}
use Rattle.std.specs.Prelude.{◌==◌, if◌then◌else◌, max, slice_get}
use Rattle.std.proofs.lemmas.List.{map-append}
use Rattle.std.proofs.lemmas.Option.{none-some, same_Some}
use Rattle.std.proofs.Math.Nat.{max-le}
use Rattle.idle_wakeup.specs.shared_rule.declared.parts.PassView.{PassView}
use Rattle.idle_wakeup.specs.shared_rule.declared.parts.Receipt.{Receipt}
use Rattle.idle_wakeup.specs.shared_rule.Shows.{BeginsWith}
use Rattle.shared_acts.specs.Interrupts.{KnowsOwn}
use Rattle.shared_acts.proofs.Gaining.{known_more}
use Rattle.run_story.specs.Written.{WrittenEntry}
use Rattle.run_story.specs.Shares.{Standing, behind_all, behind_own, with_written}
use Rattle.run_shares.specs.Doing.{written_of}
use Rattle.run_shares.specs.Standing.{StandsBy}

-- a CPU that wrote into its own journal is behind a place below that journal's end
own_below : (own : Bool) (since place n : ℕ) → since ≤ n → (own ≡ true → place < n)
    → (if own then max since (suc place) else since) ≤ n
own_below true since place n low below =
    let next = below refl in
    max-le low (omega (arith, next))
own_below false since place n low below = low

-- behind all that it wrote
behind_below : (cpu : ℕ) (ws : List WrittenEntry) (since n : ℕ) → since ≤ n
    → ((i : ℕ) (x : WrittenEntry) → slice_get ws i ≡ Some x → x.home ≡ cpu → x.place < n)
    → behind_all cpu ws since ≤ n
unfolding behind_all
behind_below cpu [] since n low below = low
behind_below cpu (x ∷ ws) since n low below =
    behind_below cpu ws (behind_own cpu x since) n
    (own_below (x.home == cpu) since x.place n low
    (λ own. below zero x refl (eqb-true x.home cpu own))) (λ i y at. below (suc i) y at)

-- what receipts say, one by one
written_at : (rs : List Receipt) (i : ℕ) (x : WrittenEntry) → slice_get (map written_of rs) i ≡ Some x
    → (r : Receipt) × (slice_get rs i ≡ Some r) × (written_of r ≡ x)
written_at [] i x at = absurd (none-some x at)
written_at (r ∷ rs) zero x at = (r, refl, same_Some (written_of r) x at)
written_at (r ∷ rs) (suc i) x at = written_at rs i x at

-- of a longer list the elements behind the shorter one
later_at : {X : Type 0} (xs ys : List X) (i : ℕ) (y : X) → slice_get ys i ≡ Some y
    → (j : ℕ) × (slice_get (xs ++ ys) j ≡ Some y)
later_at [] ys i y at = (i, at)
later_at (x ∷ xs) ys i y at = let next = later_at xs ys i y at in (suc next.0, next.1)

-- a longer journal is no shorter
longer : (p q : PassView) (n : ℕ) → BeginsWith q.journal p.journal → n ≤ length p.journal
    → n ≤ length q.journal
longer p q n begins low =
    let long = ap length begins.1 ∙ length-append p.journal begins.0 in
    omega (arith, low, long)

-- with no receipt more
pub stands_as : (p q : PassView) (s : Standing) → BeginsWith q.journal p.journal
    → q.cpu ≡ p.cpu → q.receipts ≡ p.receipts → StandsBy p s
    → StandsBy q (record s { idle = q.idle; wakeup = q.wakeup })
stands_as p q s begins cpu same by = record {
  wrote = by.wrote ∙ ap (map written_of) (sym same);
  idle = refl;
  wakeup = refl;
  since = longer p q s.since begins by.since;
  known = λ i r at own.
      longer p q (suc r.place) begins
      (by.known i r (ap (λ (l : List Receipt). slice_get l i) (sym same) ∙ at) (own ∙ cpu));
}

-- with these receipts more
pub stands_more : (p q : PassView) (s : Standing) (more : List Receipt)
    → BeginsWith q.journal p.journal → q.cpu ≡ p.cpu → q.receipts ≡ p.receipts ++ more
    → KnowsOwn q → StandsBy p s
    → StandsBy q
    (record (with_written p.cpu (map written_of more) s) { idle = q.idle; wakeup = q.wakeup })
stands_more p q s more begins cpu are known by = record {
  wrote =
      ap (λ (l : List WrittenEntry). l ++ map written_of more) by.wrote
      ∙ (sym (map-append written_of p.receipts more) ∙ ap (map written_of) (sym are));
  idle = refl;
  wakeup = refl;
  since =
      behind_below p.cpu (map written_of more) s.since (length q.journal)
      (longer p q s.since begins by.since)
      (λ i x at own.
      let r = written_at more i x at in
      let place = later_at p.receipts more i r.0 r.1 in
      subst (λ (z : WrittenEntry). z.place < length q.journal) r.2
      (known place.0 r.0 (ap (λ (l : List Receipt). slice_get l place.0) are ∙ place.1)
      (ap (λ (z : WrittenEntry). z.home) r.2 ∙ (own ∙ sym cpu))));
  known = known;
}

one_below : (r : Receipt) (n cpu : ℕ) → (r.cpu.0 ≡ cpu → r.place < n) → (j : ℕ) (y : Receipt)
    → slice_get (r ∷ []) j ≡ Some y → y.cpu.0 ≡ cpu → y.place < n
one_below r n cpu below zero y is =
    subst (λ (z : Receipt). z.cpu.0 ≡ cpu → z.place < n) (same_Some r y is) below
one_below r n cpu below (suc j) y is = absurd (none-some y is)

-- entries of the own journal are known where one more is
pub knows_one_more : (p q : PassView) (r : Receipt) → BeginsWith q.journal p.journal
    → q.cpu ≡ p.cpu → q.receipts ≡ p.receipts ++ r ∷ []
    → (r.cpu.0 ≡ p.cpu → r.place < length q.journal) → KnowsOwn p → KnowsOwn q
knows_one_more p q r begins cpu are below known i x at own =
    known_more p (r ∷ []) q.journal begins
    (λ j y is mine. one_below r (length q.journal) p.cpu below j y is mine) known i x
    (ap (λ (l : List Receipt). slice_get l i) (sym are) ∙ at) (own ∙ cpu)
