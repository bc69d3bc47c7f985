-- for crates above: receipts and what passes saw, where journals stay
use Rattle.std.proofs.Common.{◌≡◌, ⊎_elim, ℕ, ◌≤◌, List, length}
use Rattle.std.proofs.Common.{sym, ap, ◌∙◌, subst, inl, inr}
use Rattle.std.specs.Prelude.{slice_get, take}
use Rattle.cpu_bases.specs.Laws.{HasEnd}
use Rattle.core_world.specs.World.{World}
use Rattle.shared_rule.specs.declared.parts.Did.{Did}
use Rattle.shared_rule.specs.declared.parts.PassView.{PassView}
use Rattle.shared_rule.specs.declared.parts.Receipt.{Receipt}
use Rattle.shared_rule.specs.Shows.{DidRight, HasNewEnd, Noted, journal_of}
use Rattle.shared_rule.specs.Shows.{is_queued_by}

module _ (o w v : World) (same : (d : ℕ) → journal_of v d ≡ journal_of w d) where
  -- nothing was written and nothing noted
  pub noted_same : (pass next : ℕ → PassView) (holder : ℕ → ℕ → ℕ × ℕ)
      → ((d : ℕ) → (next d).receipts ≡ (pass d).receipts) → Noted o w pass holder
      → Noted o v next holder
  noted_same pass next holder receipts n = record {
    true = λ c i r at.
        let t = n.true c i r (ap (λ l. slice_get l i) (sym (receipts c)) ∙ at) in
        record {
          stands = ap (λ j. slice_get j r.place) (same r.cpu.0) ∙ t.stands;
          later = t.later;
          line = t.line;
          at = t.at;
          by = t.by;
          armed = t.armed;
          held = t.held;
        };
    all = λ d place e at later.
        let t = n.all d place e (ap (λ j. slice_get j place) (sym (same d)) ∙ at) later in
        record {
          in_range = t.in_range;
          stands = ap (λ l. slice_get l (holder d place).1) (receipts (holder d place).0)
              ∙ t.stands;
        };
    order = λ c i j r q ati atj.
        n.order c i j r q (ap (λ l. slice_get l i) (sym (receipts c)) ∙ ati)
        (ap (λ l. slice_get l j) (sym (receipts c)) ∙ atj);
  }

  ended_same : (t : ℕ) → HasNewEnd o w t → HasNewEnd o v t
  ended_same t e = record {
    cpu = e.cpu;
    place = e.place;
    ending = e.ending;
    stands = ap (λ j. slice_get j e.place) (same e.cpu) ∙ e.stands;
    later = e.later;
    timer = e.timer;
    ends = e.ends;
  }

  -- what a pass saw stays right
  pub did_same : (receipts : List Receipt) (x : Did) → DidRight o w receipts x
      → DidRight o v receipts x
  did_same receipts x d = record {
    held = d.held;
    named = λ found t p is low at.
        let q = d.named found t p is low at in
        record {
          after = q.after;
          since = q.since;
          within = subst (λ j. q.after ≤ length j) (sym (same p.cpu.0)) q.within;
          queued = ap (λ j. is_queued_by t (take q.after j)) (same p.cpu.0) ∙ q.queued;
        };
    armed = λ t i r is low early at act timer.
        subst (λ j. HasEnd j r.place r.entry) (sym (same r.cpu.0))
        (d.armed t i r is low early at act timer);
    opening = λ t is low. ⊎_elim (λ none. inl none) (λ e. inr (ended_same t e))
        (d.opening t is low);
  }
