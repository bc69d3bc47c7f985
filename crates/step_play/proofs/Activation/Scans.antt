-- for crates above: the first of the first slots of a queue, one slot more, and its expiry
use Rattle.std.proofs.Common.{◌≡◌, ℕ, ◌+◌, ◌<◌, ◌≤◌, cond, nat_lt, Bool, true, false, length, take}
use Rattle.std.proofs.Common.{Option, Some, None, refl, ap, arith}
use Rattle.std.proofs.lemmas.Bool.{ltb-false}
use Rattle.std.proofs.lemmas.List.{take_all}
use Rattle.std.proofs.lemmas.List.Sums.{fold_more}
use Rattle.tm_base.specs.declared.names.TheConstants.{NEVER}
use Rattle.event_queue.specs.declared.event.Event.{Event}
use Rattle.event_queue.specs.EventMap.{Counts, EventMap, event_at}
use Rattle.walk_rules.specs.Stages.{first_of, sooner_event}
use Rattle.step_play.specs.Rules.Live.{expiry_of, first_in}

-- a scan that has come to slot n has the first of the slots below it
pub scan_more : (es : EventMap) (n : ℕ) → n < length es →
    first_in (take (n + 1) es) ≡ sooner_event (first_in (take n es)) (event_at es n)
scan_more es n low = fold_more sooner_event None es n None low

pub scan_none : (es : EventMap) → first_in (take 0 es) ≡ None
scan_none es = refl

pub scan_all : (es : EventMap) (n : ℕ) → length es ≤ n → first_in (take n es) ≡ first_in es
scan_all es n high = ap first_in (take_all n es high)

-- and so with its expiry, where no event that counts is at NEVER
soon : (less : Bool) (e : Event) → nat_lt e.expiry NEVER ≡ less → e.expiry < NEVER →
    cond less e.expiry NEVER ≡ e.expiry
soon true e is low = refl
soon false e is low = let high = ltb-false e.expiry NEVER is in absurd (omega arith)

alone : (ignored : Bool) (e : Event) → e.ignored ≡ ignored → (Counts e → e.expiry < NEVER) →
    cond ignored NEVER (cond (nat_lt e.expiry NEVER) e.expiry NEVER)
    ≡ expiry_of (cond ignored None (Some e))
alone true e is low = refl
alone false e is low = soon (nat_lt e.expiry NEVER) e refl (low is)

sooner : (ignored less : Bool) (b e : Event) → cond ignored b.expiry (cond less e.expiry b.expiry)
    ≡ expiry_of (cond ignored (Some b) (cond less (Some e) (Some b)))
sooner true less b e = refl
sooner false true b e = refl
sooner false false b e = refl

pub expiry_more : (b m : Option Event) → ((e : Event) → m ≡ Some e → Counts e → e.expiry < NEVER) →
    first_of (expiry_of b) m ≡ expiry_of (sooner_event b m)
expiry_more None None low = refl
expiry_more (Some b) None low = refl
expiry_more None (Some e) low = alone e.ignored e refl (low e refl)
expiry_more (Some b) (Some e) low = sooner e.ignored (nat_lt e.expiry b.expiry) b e
