-- for crates above: a pass that has grown knows all that it knew
use Rattle.std.proofs.Common.{◌≡◌, ℕ, ◌+◌, ◌≤◌, List, [], ◌++◌, Contains, refl, sym, ap}
use Rattle.std.proofs.Common.{◌∙◌, subst, append-nil, append_assoc, arith, length, length-append}
use Rattle.std.proofs.Common.{map, take}
use Rattle.std.proofs.lemmas.List.{map-append, take-append-le}
use Rattle.std.proofs.lemmas.List.Elements.{Contains-append_left}
use Rattle.cpu_bases.specs.CpuBases.{empty_bases}
use Rattle.cpu_bases.specs.declared.entry.Entry.{Entry}
use Rattle.cpu_bases.specs.Replay.{replay}
use Rattle.core_world.specs.Enabled.{first_event}
use Rattle.core_world.specs.World.{World}
use Rattle.idle_wakeup.specs.shared_rule.declared.parts.Did.{Did}
use Rattle.idle_wakeup.specs.shared_rule.declared.parts.PassView.{PassView}
use Rattle.idle_wakeup.specs.shared_rule.declared.parts.Receipt.{Receipt}
use Rattle.shared_acts.proofs.Gaining.{begins, begins_then}
use Rattle.run_story.specs.Written.{WrittenEntry}
use Rattle.run_story.proofs.Knowing.{IsKnown}
use Rattle.run_shares.specs.Doing.{KnewFirst, SawNowhere, SawQueued, by_pass, written_of}
use Rattle.run_shares.specs.Standing.{PassGrows}

module _ (o : World) (walks : ℕ) (p q : PassView) (grows : PassGrows walks p q) where
  queued_more : (timer cpu : ℕ) → SawQueued o p.did timer cpu → SawQueued o q.did timer cpu
  queued_more timer cpu h = record {
    there = h.there;
    seen = h.seen;
    found = h.found;
    spot = h.spot;
    has = subst (λ (d : List Did). Contains d h.seen) (sym grows.did_are)
        (Contains-append_left p.did grows.did h.seen h.has);
    deed = h.deed;
    spelled = h.spelled;
    named = h.named;
  }

  nowhere_more : (timer : ℕ) (earlier : List WrittenEntry) → SawNowhere o p timer earlier
      → SawNowhere o q timer earlier
  nowhere_more timer earlier h = record {
    there = h.there;
    seen = h.seen;
    has = subst (λ (d : List Did). Contains d h.seen) (sym grows.did_are)
        (Contains-append_left p.did grows.did h.seen h.has);
    deed = h.deed;
    held = h.held;
    rest = h.rest ++ map written_of grows.receipts;
    front =
        ap (map written_of) grows.receipts_are
        ∙ (map-append written_of p.receipts grows.receipts
        ∙ (ap (λ (l : List WrittenEntry). l ++ map written_of grows.receipts) h.front
        ∙ append_assoc earlier h.rest (map written_of grows.receipts)));
  }

  first_more : (cpu since first : ℕ) → KnewFirst p cpu since first → KnewFirst q cpu since first
  first_more cpu since first h =
      let long : length q.journal ≡ length p.journal + length grows.journal.0 =
      ap length grows.journal.1 ∙ length-append p.journal grows.journal.0 in
      let within = h.within in
      let same : take h.count q.journal ≡ take h.count p.journal =
      ap (take h.count) grows.journal.1
      ∙ take-append-le h.count p.journal grows.journal.0 h.within in
      record {
        own = h.own ∙ sym grows.cpu;
        count = h.count;
        since_then = h.since_then;
        within = omega (arith, long, within);
        first_is =
            h.first_is
            ∙ ap (λ (j : List Entry).
            first_event (record { bases = replay j empty_bases.bases; journal = j })) (sym same);
      }

  pub knows_more : IsKnown (by_pass o p) (by_pass o q)
  knows_more = record { queues = queued_more; nowhere = nowhere_more; first = first_more }

-- nothing was done
pub grown_none : (p : PassView) → PassGrows 0 p p
grown_none p = record {
  opening = refl;
  cpu = refl;
  inside = refl;
  receipts = [];
  receipts_are = sym (append-nil p.receipts);
  did = [];
  did_are = sym (append-nil p.did);
  journal = begins p.journal;
  few = omega arith;
}

-- one behind the other
pub grown_then : (a b : ℕ) (p q r : PassView) → PassGrows a p q → PassGrows b q r → PassGrows (a + b) p r
grown_then a b p q r first next = record {
  opening = next.opening ∙ first.opening;
  cpu = next.cpu ∙ first.cpu;
  inside = next.inside ∙ first.inside;
  receipts = first.receipts ++ next.receipts;
  receipts_are =
      next.receipts_are
      ∙ (ap (λ (x : List Receipt). x ++ next.receipts) first.receipts_are
      ∙ append_assoc p.receipts first.receipts next.receipts);
  did = first.did ++ next.did;
  did_are =
      next.did_are
      ∙ (ap (λ (x : List Did). x ++ next.did) first.did_are
      ∙ append_assoc p.did first.did next.did);
  journal = begins_then r.journal q.journal p.journal first.journal next.journal;
  few = (let x = first.few in let y = next.few in omega (arith, x, y));
}

-- with fewer walks than so many
pub grown_within : (few many : ℕ) (p q : PassView) → few ≤ many → PassGrows few p q → PassGrows many p q
grown_within few many p q low grows = record {
  opening = grows.opening;
  cpu = grows.cpu;
  inside = grows.inside;
  receipts = grows.receipts;
  receipts_are = grows.receipts_are;
  did = grows.did;
  did_are = grows.did_are;
  journal = grows.journal;
  few = (let walks = grows.few in omega (arith, low, walks));
}
