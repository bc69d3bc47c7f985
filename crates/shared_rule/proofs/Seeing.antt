-- for crates above: what a pass that loads a word has seen is right
use Rattle.std.proofs.Common.{◌≡◌, ◌⊎◌, ⊎_elim, ℕ, ◌<◌, ◌≤◌, List, [], ◌∷◌, length}
use Rattle.std.proofs.Common.{Option, Some, None, refl, sym, ap, ◌∙◌, inl, inr, arith, subst}
use Rattle.std.specs.Prelude.{is_some, option_map, slice_get, take}
use Rattle.std.specs.Option.{ForSome}
use Rattle.std.proofs.lemmas.Option.{none-some}
use Rattle.tm_base.specs.declared.names.Class.{Class}
use Rattle.wheel_core.specs.declared.item.Item.{Item}
use Rattle.cpu_bases.specs.declared.entry.Act.TheVariants.{Armed}
use Rattle.cpu_bases.specs.declared.entry.Entry.{Entry}
use Rattle.cpu_bases.specs.CpuBases.{CpuBases, IsConsistent, class_in, empty_bases}
use Rattle.cpu_bases.specs.Laws.{HasEnd, IsQueuedAs, is_arming}
use Rattle.cpu_bases.specs.Replay.{replay}
use Rattle.cpu_bases.proofs.Opens.{queued_or_ended}
use Rattle.cpu_bases.proofs.Queued.{queued_once}
use Rattle.core_world.specs.World.{World, cpu_of}
use Rattle.core_state.specs.Kept.{is_queued}
use Rattle.shared_words.specs.declared.layout.SharedWord.{SharedWord}
use Rattle.shared_words.specs.declared.spot.Spot.{Spot}
use Rattle.shared_words.specs.Layout.{IsWordOf, index_of}
use Rattle.shared_words.specs.Words.{FitsSpot, spot_of, spot_word}
use Rattle.shared_words.proofs.Apart.{same_word}
use Rattle.shared_words.proofs.Back.{spot_back}
use Rattle.shared_rule.specs.declared.parts.Deed.{Deed}
use Rattle.shared_rule.specs.declared.parts.Deed.TheVariants as deeds
use Rattle.shared_rule.specs.declared.parts.PassView.{PassView}
use Rattle.shared_rule.specs.declared.parts.Receipt.{Receipt}
use Rattle.shared_rule.specs.Plays.{NamesCpu}
use Rattle.shared_rule.specs.CoreLaws.{CoreLaws}
use Rattle.shared_rule.specs.Whole.{Whole, layout_of, spot_at, timer_at, word_at}
use Rattle.shared_rule.specs.Shows.{DidRight, HasNewEnd, IsShown, WasQueued, is_queued_by}
use Rattle.shared_rule.specs.Shows.{journal_of, saw_timer}
use Rattle.shared_rule.specs.Starts.{spot_in}
use Rattle.shared_rule.proofs.Fits.{many}
use Rattle.shared_rule.proofs.Growing.{length_grows}
use Rattle.shared_rule.proofs.Histories.{gone_by_end}
use Rattle.shared_rule.proofs.Starting.{names_below, spot_found}

take_all : {X : Type 0} (xs : List X) → take (length xs) xs ≡ xs
take_all [] = refl
take_all (x ∷ xs) = ap (λ l. x ∷ l) (take_all xs)

-- the word that a pass saw
abbrev word_seen : Deed → ℕ
word_seen (deeds.Saw word found) = word
word_seen (deeds.Took cpu) = 0
word_seen (deeds.Carried cpu next) = 0
word_seen (deeds.Released cpu) = 0

-- what it found there
abbrev found_then : Deed → ℕ
found_then (deeds.Saw word found) = found
found_then (deeds.Took cpu) = 0
found_then (deeds.Carried cpu next) = 0
found_then (deeds.Released cpu) = 0

pub no_spot : (m : Option Spot) → spot_word m ≡ 0 → m ≡ None
no_spot None e = refl
no_spot (Some p) e = absurd (omega (arith, e))

pub or_class : (m : Option Class) → (m ≡ None) ⊎ ((class : Class) × (m ≡ Some class))
or_class None = inl refl
or_class (Some class) = inr (class, refl)

or_spot : (m : Option Spot) → (m ≡ None) ⊎ ((p : Spot) × (m ≡ Some p))
or_spot None = inl refl
or_spot (Some p) = inr (p, refl)

-- an item that is in a base is queued
queued_as : (cpu : CpuBases) (arming : Entry) → IsConsistent cpu
    → IsQueuedAs cpu arming → class_in arming.timer.0 cpu ≡ Some arming.class
queued_as cpu arming consistent q =
    ap (option_map (λ (found : Class × Item). found.0))
    (queued_once cpu arming.timer.0 arming.class q.0 consistent q.1)

module _ (law : CoreLaws) (o : World) (s : Whole) (h : IsShown o s) where
  abbrev w : World
  w = s.world

  opened_length : (d : ℕ) → length (journal_of o d) ≤ length (journal_of w d)
  opened_length d = length_grows o o w (λ m. let r = h.replayed m in (r.more, r.grows)) d

  -- a timer that is queued now was queued since the opening
  was_queued : (t : ℕ) (p : Spot) → s.spot t ≡ Some p → WasQueued o w t p.cpu.0
  was_queued t p at =
      let d = p.cpu.0 in
      let j = journal_of w d in
      let played = h.fits.played d in
      let is : (cpu_of w d).bases
      ≡ record { bases = replay j empty_bases.bases; journal = j }
      = λ i. record { bases = played.bases i; journal = j } in
      record {
        after = length j;
        since = opened_length d;
        within = omega arith;
        queued =
            ap (is_queued_by t) (take_all j)
            ∙ (ap (is_queued t) (sym is) ∙ ap is_some (h.queued t p at).1);
      }

  spot_fits : (t : ℕ) → ForSome (s.spot t) FitsSpot
  spot_fits t p at = omega (arith, (h.queued t p at).0, many law o s h)

  -- the word of a timer names a CPU of the run, or none
  pub names_cpu : (t : ℕ) (p : PassView) → p ≡ s.pass p.cpu
      → NamesCpu (p ∷ []) (spot_word (s.spot t))
  names_cpu t p is = λ z at.
      subst (λ (x : World). z.cpu.0 < length x.cpus)
      (sym (ap (λ (x : PassView). x.opening) is ∙ h.opened p.cpu))
      (h.queued t z (sym (spot_back (s.spot t) (spot_fits t)) ∙ at)).0

  -- what is queued nowhere was queued nowhere at the opening, or has an end since
  ended_or_never : (t : ℕ) → s.spot t ≡ None
      → ((d : ℕ) → class_in t (cpu_of o d).bases ≡ None) ⊎ HasNewEnd o w t
  ended_or_never t none = ⊎_elim
      (λ (never : spot_in o t ≡ None). inl (λ d. ⊎_elim (λ z. z)
      (λ (z : (class : Class) × (class_in t (cpu_of o d).bases ≡ Some class)).
      absurd (none-some (spot_at d z.0)
      (sym never ∙ spot_found o h.opening t d z.0 z.1)))
      (or_class (class_in t (cpu_of o d).bases))))
      (λ (z : (p : Spot) × (spot_in o t ≡ Some p)).
      let d = z.0.cpu.0 in
      let was = (names_below o h.opening t (length o.cpus) z.0 z.1).1 in
      let r = h.replayed d in
      let gone : class_in t (cpu_of w d).bases ≡ None
      = ⊎_elim (λ y. y)
      (λ (y : (class : Class) × (class_in t (cpu_of w d).bases ≡ Some class)).
      absurd (none-some (spot_at d y.0) (sym none ∙ h.named t d y.0 y.1)))
      (or_class (class_in t (cpu_of w d).bases)) in
      let e = gone_by_end (cpu_of o d).bases (cpu_of w d).bases r.more t z.0.class r.grows
      (h.opening.lawful.timers.consistent d) (h.fits.lawful.timers.consistent d) was gone in
      inr (record {
        cpu = d;
        place = e.place;
        ending = e.ending;
        stands = e.stands;
        later = e.later;
        timer = e.timer;
        ends = e.ends;
      }))
      (or_spot (spot_in o t))

  -- an arming of a timer that is queued nowhere has an end
  has_ended : (t c i : ℕ) (r : Receipt) → s.spot t ≡ None
      → slice_get (s.pass c).receipts i ≡ Some r → r.entry.act ≡ Armed → r.entry.timer.0 ≡ t
      → HasEnd (journal_of w r.cpu.0) r.place r.entry
  has_ended t c i r none at act timer =
      let d = r.cpu.0 in
      let consistent = h.fits.lawful.timers.consistent d in
      ⊎_elim
      (λ (q : IsQueuedAs (cpu_of w d).bases r.entry).
      absurd (none-some (spot_at d r.entry.class)
      (sym none
      ∙ (ap s.spot (sym timer)
      ∙ h.named r.entry.timer.0 d r.entry.class
      (queued_as (cpu_of w d).bases r.entry consistent q)))))
      (λ e. e)
      (queued_or_ended (cpu_of w d).bases r.place r.entry consistent
      (h.noted.1.true c i r at).stands (ap is_arming act))

  -- the load of any word by the pass of c
  pub saw_right : (c : ℕ) (m : SharedWord) → IsWordOf (layout_of o) m
      → DidRight o w (s.pass c).receipts (record {
        held = length (s.pass c).receipts;
        deed = deeds.Saw (index_of (layout_of o) m) (word_at s m);
      })
  saw_right c m within =
      let timer : (t found : ℕ)
      → deeds.Saw (index_of (layout_of o) m) (word_at s m) ≡ saw_timer o t found
      → t < o.timers → spot_word (s.spot t) ≡ found
      = λ t found is low.
      let one : m ≡ timer_at t
      = same_word (layout_of o) m (timer_at t) within low (ap word_seen is) in
      ap (word_at s) (sym one) ∙ ap found_then is in
      record {
        held = omega arith;
        named = λ t' t p is low at.
            was_queued t p
            (sym (spot_back (s.spot t) (spot_fits t)) ∙ (ap spot_of (timer t t' is low) ∙ at));
        armed = λ t i r is low early at act arms.
            has_ended t c i r (no_spot (s.spot t) (timer t 0 is low)) at act arms;
        opening = λ t is low. ended_or_never t (no_spot (s.spot t) (timer t 0 is low));
      }
