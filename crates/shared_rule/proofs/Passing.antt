-- for crates above: the whole with another pass of a CPU
use Rattle.std.proofs.Common.{◌≡◌, ◌↔◌, ℕ, ◌^◌, ◌<◌, length, Some, refl, sym, ◌∙◌, subst}
use Rattle.std.proofs.Common.{inl, inr, arith}
use Rattle.std.specs.Prelude.{Contains, slice_get}
use Rattle.std.proofs.lemmas.Bool.{cases_eq}
use Rattle.core_world.specs.World.{World, cpu_of}
use Rattle.shared_words.specs.declared.layout.SharedWord.{SharedWord}
use Rattle.shared_words.specs.declared.layout.SharedWord.TheVariants.{State, Lock, Slot, Cpu, Timer}
use Rattle.shared_rule.specs.declared.parts.Did.{Did}
use Rattle.shared_rule.specs.declared.parts.PassView.{PassView}
use Rattle.shared_rule.specs.Whole.{Whole, word_at}
use Rattle.shared_rule.specs.Shows.{BeginsWith, DidRight, FlagsOf, IsShown, journal_of, set_at}
use Rattle.shared_rule.proofs.Sums.{sum_same}
use Rattle.shared_rule.proofs.Moving.{pass_field, set_else, set_here}
use Rattle.shared_rule.proofs.Noting.{noted_same}

-- the whole with another pass of c
abbrev pub with_pass : Whole → (c : ℕ) → PassView → Whole
with_pass s c q = record s { pass = set_at c q s.pass }

-- passes are no part of any word
pub word_stays : (s : Whole) (c : ℕ) (q : PassView) (m : SharedWord)
    → word_at (with_pass s c q) m ≡ word_at s m
word_stays s c q (State g) = refl
word_stays s c q (Lock g) = refl
word_stays s c q (Slot g k) = refl
word_stays s c q (Cpu d) = refl
word_stays s c q (Timer t) = refl

-- pass q says what p does, but of the journal and of what it saw and did
pub record IsAlike (p q : PassView) : Type 0 where
  pub opening : q.opening ≡ p.opening
  pub cpu : q.cpu ≡ p.cpu
  pub walks : q.walks ≡ p.walks
  pub receipts : q.receipts ≡ p.receipts
  pub idle : q.idle ≡ p.idle
  pub inside : q.inside ≡ p.inside
  pub reeval : q.reeval ≡ p.reeval
  pub wakeup : q.wakeup ≡ p.wakeup
  pub marks : q.marks ≡ p.marks

module _ (o : World) (s : Whole) (h : IsShown o s) (c : ℕ) (q : PassView)
    (alike : IsAlike (s.pass c) q) (front : BeginsWith (journal_of s.world c) q.journal)
    (back : BeginsWith q.journal (journal_of o c))
    (right : (i : ℕ) (z : Did) → slice_get q.did i ≡ Some z
    → DidRight o s.world (s.pass c).receipts z) where
  abbrev next : Whole
  next = with_pass s c q

  but : {X : Type 0} (f : PassView → X) → f q ≡ f (s.pass c) → (d : ℕ)
      → f (next.pass d) ≡ f (s.pass d)
  but f is d = pass_field f s.pass c q is d

  -- what is true of the pass of each CPU, where it is of the new one
  each_pass : (P : ℕ → PassView → Type 0) → P c q → ((d : ℕ) → P d (s.pass d)) → (d : ℕ)
      → P d (next.pass d)
  each_pass P mine others d = elim (cases_eq d c) [
    | inl is ↦
        subst (λ m. P m (next.pass m)) (sym is) (subst (P c) (sym (set_here c q s.pass)) mine)
    | inr ne ↦ subst (P d) (sym (set_else c q s.pass d ne)) (others d)
  ]

  flags : (d : ℕ) → FlagsOf (cpu_of s.world d) (next.pass d)
  flags d =
      let was = h.flags d in
      record {
        idle = but (λ z. z.idle) alike.idle d ∙ was.idle;
        inside = but (λ z. z.inside) alike.inside d ∙ was.inside;
        wakeup = but (λ z. z.wakeup) alike.wakeup d ∙ was.wakeup;
        reeval = but (λ z. z.reeval) alike.reeval d ∙ was.reeval;
      }

  pub repassed : IsShown o next
  repassed = record {
    opening = h.opening;
    fits = h.fits;
    reached = h.reached;
    same = h.same;
    clock = h.clock;
    online = h.online;
    staying = h.staying;
    reads = λ d. let r = h.reads d in record { fresh = r.fresh; before = r.before; good = r.good };
    bound = λ g.
        let begun = sum_same (length o.cpus) (λ d. (s.pass d).walks) (λ d. (next.pass d).walks)
        (λ d low. but (λ z. z.walks) alike.walks d) in
        omega (arith, begun, h.bound g);
    few = λ d. subst (λ n. n < 2 ^ 32) (sym (but (λ z. z.walks) alike.walks d)) (h.few d);
    opened = λ d. but (λ z. z.opening) alike.opening d ∙ h.opened d;
    passes = λ d. but (λ z. z.cpu) alike.cpu d ∙ h.passes d;
    flags = flags;
    marked = λ d m.
        subst (λ l. ((cpu_of s.world d).mark ≡ Some m) ↔ Contains l d)
        (sym (but (λ z. z.marks) alike.marks m)) (h.marked d m);
    named = h.named;
    queued = h.queued;
    replayed = h.replayed;
    journals = each_pass (λ d p. BeginsWith (journal_of s.world d) p.journal) front h.journals;
    parted = each_pass (λ d p. BeginsWith p.journal (journal_of o d)) back h.parted;
    noted = (
      h.noted.0,
      noted_same o s.world s.world (λ d. refl) s.pass next.pass h.noted.0
          (λ d. but (λ z. z.receipts) alike.receipts d) h.noted.1,
    );
    seen = λ d i z.
        subst (λ l. slice_get (next.pass d).did i ≡ Some z → DidRight o s.world l z)
        (sym (but (λ y. y.receipts) alike.receipts d))
        (each_pass (λ m p. slice_get p.did i ≡ Some z → DidRight o s.world (s.pass m).receipts z)
        (right i z) (λ m. h.seen m i z) d);
    left = h.left;
  }
