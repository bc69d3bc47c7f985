-- what a pass knows is what the journals of the core say, and its receipts are what its CPU wrote
use Rattle.std.proofs.Common.{arith, ◌≡◌, ◌⊎◌, ℕ, zero, suc, ◌<◌, ◌≤◌, List, [], ◌∷◌, ◌++◌}
use Rattle.std.proofs.Common.{Some, None, length, map, take, sym, ap, ◌∙◌, subst, refl}
use Rattle.std.proofs.Common.{inl, inr}
use Rattle.std.specs.Prelude.{Contains, option_map, slice_get}
use Rattle.std.proofs.lemmas.List.{length-append}
use Rattle.std.proofs.lemmas.Option.{none-some, same_Some, slice_get-map, slice_get_within}
use Rattle.std.proofs.lemmas.Option.{slice_get-get_or}
use Rattle.cpu_bases.specs.CpuBases.{class_in, empty_bases}
use Rattle.cpu_bases.specs.declared.entry.Act.TheVariants.{Armed}
use Rattle.cpu_bases.specs.Laws.{HasEnd}
use Rattle.cpu_bases.specs.Replay.{replay}
use Rattle.core_world.specs.Enabled.{first_event}
use Rattle.core_world.specs.World.{World, cpu_of}
use Rattle.idle_wakeup.specs.shared_rule.declared.parts.Did.{Did}
use Rattle.idle_wakeup.specs.shared_rule.declared.parts.PassView.{PassView}
use Rattle.idle_wakeup.specs.shared_rule.declared.parts.Receipt.{Receipt}
use Rattle.idle_wakeup.specs.shared_rule.Shows.{DidRight, HasNewEnd, IsShown, Noted, journal_of}
use Rattle.idle_wakeup.specs.shared_rule.Whole.{Whole}
use Rattle.run_story.specs.Rounds.{WasFirst, by_journals}
use Rattle.run_story.specs.Written.{AreWritten, HasTimerEnded, StandsWritten, WasNowhere, WasQueuedSince, WrittenEntry}
use Rattle.run_story.proofs.Knowing.{IsKnown}
use Rattle.run_shares.specs.Doing.{KnewFirst, SawNowhere, SawQueued, by_pass, written_of}

-- the receipt of what was written there
receipt_behind : (rs : List Receipt) (i : ℕ) (x : WrittenEntry)
    → slice_get (map written_of rs) i ≡ Some x
    → (r : Receipt) × (slice_get rs i ≡ Some r) × (x ≡ written_of r)
receipt_behind [] i x at = absurd (none-some x at)
receipt_behind (r ∷ rs) zero x at = (r, refl, sym (same_Some _ _ at))
receipt_behind (r ∷ rs) (suc i) x at = receipt_behind rs i x at

-- and what a receipt says was written
written_there : (rs : List Receipt) (i : ℕ) (r : Receipt) → slice_get rs i ≡ Some r
    → slice_get (map written_of rs) i ≡ Some (written_of r)
written_there rs i r at = slice_get-map written_of rs i ∙ ap (option_map written_of) at

-- WRITTEN: by the receipts of all passes
pub are_written : (o w : World) (pass : ℕ → PassView) (holder : ℕ → ℕ → ℕ × ℕ)
    → Noted o w pass holder → AreWritten o w (λ c. map written_of (pass c).receipts)
are_written o w pass holder noted = record {
  writer = holder;
  stand = λ c i x at.
      let r = receipt_behind (pass c).receipts i x at in
      let h = noted.true c i r.0 r.1 in
      subst (StandsWritten o w holder c i) (sym r.2) (record {
        stands = h.stands;
        later = h.later;
        at = h.at;
        by = h.by;
        armed = h.armed;
        once = h.held;
      });
  all = λ d place e at new.
      let h = noted.all d place e at new in
      record {
        in_range = h.in_range;
        among = written_there (pass (holder d place).0).receipts (holder d place).1 _ h.stands;
      };
  order = λ c i j x y one other same before.
      let r = receipt_behind (pass c).receipts i x one in
      let q = receipt_behind (pass c).receipts j y other in
      let homes : (r.0).cpu.0 ≡ (q.0).cpu.0
      = ap (λ (z : WrittenEntry). z.home) (sym r.2) ∙ (same ∙ ap (λ (z : WrittenEntry). z.home) q.2) in
      let places = noted.order c i j r.0 q.0 r.1 q.1 homes before in
      subst (λ z. z.place < y.place) (sym r.2)
      (subst (λ z. (r.0).place < z.place) (sym q.2) places);
}

-- the place of an element
index_in : {X : Type 0} (xs : List X) (x : X) → Contains xs x → (i : ℕ) × (slice_get xs i ≡ Some x)
index_in xs x c = (
  c.0,
  slice_get-get_or xs c.0 x c.1 ∙ ap Some c.2,
)

-- a front of a list has the elements of the list
front_at : {X : Type 0} (front rest : List X) (i : ℕ) (x : X) → slice_get front i ≡ Some x
    → slice_get (front ++ rest) i ≡ Some x
front_at [] rest i x at = absurd (none-some x at)
front_at (y ∷ ys) rest zero x at = at
front_at (y ∷ ys) rest (suc i) x at = front_at ys rest i x at

-- so many of a front are those of the list
take_front : {X : Type 0} (front rest : List X) (n : ℕ) → n ≤ length front
    → take n (front ++ rest) ≡ take n front
take_front front rest zero low = refl
take_front [] rest (suc n) low = absurd (omega (arith, low))
take_front (y ∷ ys) rest (suc n) low =
    ap (λ zs. y ∷ zs) (take_front ys rest n (omega (arith, low)))

module _ (o : World) (s : Whole) (shown : IsShown o s) (c : ℕ) where
  right : (x : Did) → Contains (s.pass c).did x → DidRight o s.world (s.pass c).receipts x
  right x has =
      let at = index_in (s.pass c).did x has in shown.seen c at.0 x at.1

  queues : (timer cpu : ℕ) → SawQueued o (s.pass c).did timer cpu
      → WasQueuedSince o s.world timer cpu
  queues timer cpu h =
      let was = (right h.seen h.has).named h.found timer h.spot h.deed h.there h.spelled in
      subst (WasQueuedSince o s.world timer) h.named (record {
        count = was.after;
        since = was.since;
        within = was.within;
        queued = was.queued;
      })

  nowhere : (timer : ℕ) (earlier : List WrittenEntry) → SawNowhere o (s.pass c) timer earlier
      → WasNowhere o s.world timer earlier
  nowhere timer earlier h = record {
    armed = λ i x at act is.
        let low = slice_get_within earlier i x at in
        let r = receipt_behind (s.pass c).receipts i x
        (ap (λ l. slice_get l i) h.front ∙ front_at earlier h.rest i x at) in
        let held = h.held in
        subst (λ z. HasEnd (journal_of s.world z.home) z.place z.entry) (sym r.2)
        ((right h.seen h.has).armed timer i r.0 h.deed h.there (omega (arith, low, held)) r.1
        (subst (λ z. z.entry.act ≡ Armed) r.2 act) (subst (λ z. z.entry.timer.0 ≡ timer) r.2 is));
    opening = ended ((right h.seen h.has).opening timer h.deed h.there);
  }
    where
      ended : ((d : ℕ) → class_in timer (cpu_of o d).bases ≡ None) ⊎ HasNewEnd o s.world timer
          → ((d : ℕ) → class_in timer (cpu_of o d).bases ≡ None) ⊎ HasTimerEnded o s.world timer
      ended (inl none) = inl none
      ended (inr new) = inr (record {
        cpu = new.cpu;
        place = new.place;
        ending = new.ending;
        stands = new.stands;
        later = new.later;
        timer_is = new.timer;
        ends = new.ends;
      })

  first : (cpu since event : ℕ) → KnewFirst (s.pass c) cpu since event
      → WasFirst s.world cpu since event
  first cpu since event h =
      let own : cpu ≡ c = h.own ∙ shown.passes c in
      let begins = shown.journals c in
      let within = h.within in
      let longer = length-append (s.pass c).journal begins.0 in
      let all = ap length begins.1 in
      subst (λ d. WasFirst s.world d since event) (sym own) (record {
        count = h.count;
        since_then = h.since_then;
        within = omega (arith, within, longer, all);
        first_is = h.first_is
            ∙ ap (λ l. first_event (record {
              bases = replay l empty_bases.bases;
              journal = l;
            })) (sym (ap (take h.count) begins.1
            ∙ take_front (s.pass c).journal begins.0 h.count within));
      })

  -- KNOWN: what the pass of a CPU knows
  pub pass_known : IsKnown (by_pass o (s.pass c)) (by_journals o s.world)
  pass_known = record { queues = queues; nowhere = nowhere; first = first }
