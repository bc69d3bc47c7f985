-- for crates above: a timer that was queued and isn't has an end among the entries between
use Rattle.std.proofs.Common.{◌≡◌, ◌⊎◌, ⊎_elim, ℕ, suc, ◌+◌, ◌≤◌, List, [], ◌∷◌, ◌++◌, length}
use Rattle.std.proofs.Common.{Option, Some, None, refl, sym, ap, ◌∙◌, subst, inl, inr, arith, true}
use Rattle.std.specs.Prelude.{slice_get}
use Rattle.std.proofs.lemmas.Option.{none-some}
use Rattle.tm_base.specs.declared.names.Class.{Class}
use Rattle.cpu_bases.specs.declared.entry.Entry.{Entry}
use Rattle.cpu_bases.specs.CpuBases.{CpuBases, IsConsistent, class_in}
use Rattle.cpu_bases.specs.Journals.{EachMayFollow, arming_of, queued_after, queued_by, queued_from}
use Rattle.cpu_bases.specs.Laws.{is_end}
use Rattle.cpu_bases.proofs.Consistent.{not_queued}
use Rattle.cpu_bases.proofs.Ends.{stays_or_ends}
use Rattle.cpu_bases.proofs.Keeping.{nowhere}

-- what is queued by two journals, one after the other
queued_append : (queued xs ys : List Entry)
    → queued_from queued (xs ++ ys) ≡ queued_from (queued_from queued xs) ys
queued_append queued [] ys = refl
queued_append queued (x ∷ xs) ys = queued_append (queued_after x.act queued x) xs ys

follow_append : (queued xs ys : List Entry) → EachMayFollow queued (xs ++ ys)
    → EachMayFollow (queued_from queued xs) ys
follow_append queued [] ys h = h
follow_append queued (x ∷ xs) ys h = follow_append (queued_after x.act queued x) xs ys h.1

get_behind : (xs ys : List Entry) (i : ℕ)
    → slice_get (xs ++ ys) (length xs + i) ≡ slice_get ys i
get_behind [] ys i = let e : 0 + i ≡ i = omega arith in ap (slice_get ys) e
get_behind (x ∷ xs) ys i =
    let e : suc (length xs) + i ≡ suc (length xs + i) = omega arith in
    ap (slice_get (x ∷ xs ++ ys)) e ∙ get_behind xs ys i

-- an end of a timer, at or past a place of a journal
pub record EndPast (journal : List Entry) (t from : ℕ) : Type 0 where
  pub place : ℕ
  pub ending : Entry
  pub stands : slice_get journal place ≡ Some ending
  pub later : from ≤ place
  pub timer : ending.timer.0 ≡ t
  pub ends : is_end ending.act ≡ true

or_arming : (o : Option Entry) → (o ≡ None) ⊎ ((arming : Entry) × (o ≡ Some arming))
or_arming None = inl refl
or_arming (Some arming) = inr (arming, refl)

pub gone_by_end : (old new : CpuBases) (more : List Entry) (t : ℕ) (class : Class)
    → new.journal ≡ old.journal ++ more → IsConsistent old → IsConsistent new
    → class_in t old ≡ Some class → class_in t new ≡ None
    → EndPast new.journal t (length old.journal)
gone_by_end old new more t class grows was is there gone = ⊎_elim
    (λ none. absurd (none-some class (sym (nowhere t old was none) ∙ there)))
    (λ (a : (arming : Entry) × (arming_of t (queued_by old.journal) ≡ Some arming)).
    let follows = follow_append [] old.journal more
    (subst (EachMayFollow []) grows is.each_may_follow) in
    let none : arming_of t (queued_by new.journal) ≡ None = not_queued new t is gone in
    ⊎_elim
    (λ stays.
    absurd (none-some a.0
    (sym none
    ∙ (ap (λ j. arming_of t (queued_by j)) grows
    ∙ (ap (arming_of t) (queued_append [] old.journal more) ∙ stays)))))
    (λ ends. record {
      place = length old.journal + ends.0;
      ending = ends.1;
      stands =
          ap (λ j. slice_get j (length old.journal + ends.0)) grows
          ∙ (get_behind old.journal more ends.0 ∙ ends.2);
      later = omega arith;
      timer = ends.4;
      ends = ends.3;
    })
    (stays_or_ends t (queued_by old.journal) more a.0 a.1 follows))
    (or_arming (arming_of t (queued_by old.journal)))
