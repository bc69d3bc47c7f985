-- for crates above: what a pass saw stays right as journals and receipts grow
use Rattle.std.proofs.Common.{⊎_elim, ℕ, ◌≤◌, List, ◌++◌, length, sym, ap, ◌∙◌}
use Rattle.std.proofs.Common.{subst, inl, inr, arith, length-append}
use Rattle.std.specs.Prelude.{slice_get, take}
use Rattle.std.proofs.lemmas.Option.{slice_get_within}
use Rattle.cpu_bases.specs.declared.entry.Entry.{Entry}
use Rattle.cpu_bases.specs.Laws.{HasEnd}
use Rattle.core_world.specs.World.{World}
use Rattle.shared_rule.specs.declared.parts.Did.{Did}
use Rattle.shared_rule.specs.declared.parts.Receipt.{Receipt}
use Rattle.shared_rule.specs.Shows.{BeginsWith, DidRight, HasNewEnd, WasQueued, is_queued_by}
use Rattle.shared_rule.specs.Shows.{journal_of}
use Rattle.shared_rule.proofs.Fronts.{get_front, get_left, take_front}

-- the end of an arming stays its end
end_stays : (journal more : List Entry) (i : ℕ) (arming : Entry) → HasEnd journal i arming
    → HasEnd (journal ++ more) i arming
end_stays journal more i arming h =
    let e = h.2 in
    let low = slice_get_within journal h.0 h.1 e.ending_there in (
      h.0,
      h.1,
      record {
        later = e.later;
        arming_there = get_left journal more i arming e.arming_there;
        ending_there = get_left journal more h.0 h.1 e.ending_there;
        arms = e.arms;
        ends = e.ends;
        same_timer = e.same_timer;
        none_between = λ k entry after before at.
            e.none_between k entry after before
            (sym (get_front journal more k (omega (arith, before, low))) ∙ at);
      },
    )

module _ (o w v : World) (grows : (d : ℕ) → BeginsWith (journal_of v d) (journal_of w d)) where
  pub length_grows : (d : ℕ) → length (journal_of w d) ≤ length (journal_of v d)
  length_grows d =
      let g = grows d in
      omega (arith, ap length g.1, length-append (journal_of w d) g.0)

  queued_stays : (t d : ℕ) → WasQueued o w t d → WasQueued o v t d
  queued_stays t d q =
      let g = grows d in
      record {
        after = q.after;
        since = q.since;
        within = omega (arith, q.within, length_grows d);
        queued =
            ap (λ j. is_queued_by t (take q.after j)) g.1
            ∙ (ap (is_queued_by t) (take_front q.after (journal_of w d) g.0 q.within) ∙ q.queued);
      }

  pub new_end_stays : (t : ℕ) → HasNewEnd o w t → HasNewEnd o v t
  new_end_stays t e =
      let g = grows e.cpu in
      record {
        cpu = e.cpu;
        place = e.place;
        ending = e.ending;
        stands =
            ap (λ j. slice_get j e.place) g.1
            ∙ get_left (journal_of w e.cpu) g.0 e.place e.ending e.stands;
        later = e.later;
        timer = e.timer;
        ends = e.ends;
      }

  -- with more receipts, and in longer journals
  pub did_stays : (receipts more : List Receipt) (x : Did) → DidRight o w receipts x
      → DidRight o v (receipts ++ more) x
  did_stays receipts more x d = record {
    held = omega (arith, d.held, length-append receipts more);
    named = λ found t p is low at. queued_stays t p.cpu.0 (d.named found t p is low at);
    armed = λ t i r is low early at act timer.
        let g = grows r.cpu.0 in
        let was = sym (get_front receipts more i (omega (arith, early, d.held))) ∙ at in
        subst (λ j. HasEnd j r.place r.entry) (sym g.1)
        (end_stays (journal_of w r.cpu.0) g.0 r.place r.entry
        (d.armed t i r is low early was act timer));
    opening = λ t is low.
        ⊎_elim (λ none. inl none) (λ e. inr (new_end_stays t e)) (d.opening t is low);
  }
