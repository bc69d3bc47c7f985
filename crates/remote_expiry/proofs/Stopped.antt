-- want of memory behind work, and in the drain of a base or in a try
use Rattle.std.proofs.Common.{◌≡◌, inl, inr, ℕ, ◌+◌, ◌≤◌, List, [], ◌∷◌, ◌++◌, Result, Ok, Err}
use Rattle.std.proofs.Common.{Contains, refl, sym, ap, ◌∙◌, subst, subst₂, arith, length}
use Rattle.std.proofs.Common.{append-nil, append_assoc, length-append}
use Rattle.std.specs.Prelude.{MatchResult}
use Rattle.std.proofs.lemmas.List.Elements.{Contains-append_left, Contains-append_right}
use Rattle.atomic_table.specs.Seated.{TableId}
use Rattle.tm_base.specs.declared.faults.NoMemory.{NoMemory}
use Rattle.tm_base.specs.declared.names.Class.{Class}
use Rattle.tm_base.specs.declared.names.Class.TheVariants.{Global}
use Rattle.wheel_core.specs.declared.item.Item.{Item}
use Rattle.core_world.specs.World.{World}
use Rattle.job_table.specs.declared.jobs.JobCall.{JobCall}
use Rattle.job_table.specs.declared.jobs.JobReply.{JobReply}
use Rattle.walk_inactive.specs.shared_rule.declared.parts.Did.{Did}
use Rattle.walk_inactive.specs.shared_rule.declared.parts.PassView.{PassView}
use Rattle.walk_inactive.specs.shared_rule.declared.parts.Receipt.{Receipt}
use Rattle.walk_inactive.specs.shared_rule.Passes.{HeldPass}
use Rattle.shared_acts.specs.declared.runs.Ran.{Ran}
use Rattle.shared_acts.specs.Following.{Follows}
use Rattle.shared_acts.specs.Handing.{HasHanded}
use Rattle.shared_acts.specs.Pieces.{HandsOutItems, PassGains, Piece, Works}
use Rattle.shared_acts.specs.Tries.{AtWork, HasLetGo, HasTakenTimers, HasTried, with_marks}
use Rattle.shared_acts.proofs.Follow.{follow, follow_wider}
use Rattle.shared_acts.proofs.Gaining as gaining
use Rattle.shared_acts.proofs.OwnDrains.{tick_of}
use Rattle.shared_acts.proofs.Served.{served_either, still_at_work}
use Rattle.shared_acts.proofs.Trials.{gains_with}
use Rattle.remote_expiry.specs.Order.{AreArmings, IsWholeDrain}
use Rattle.remote_expiry.specs.Running.{IsWider, RanAllArming, RanInPart}
use Rattle.remote_expiry.specs.Stopping.{FollowsInPart, IsStopped, StopsIn}
use Rattle.remote_expiry.specs.Trying.{DrainsOwn, StopsPass}

-- STOPPED behind work
pub stopped_behind : (o : World) (jobs : ℕ → JobCall → JobReply) (runner : ℕ)
    (seen : List Did) (place : ℕ) (rs more : List Receipt) (runs later : List Ran)
    → Follows o jobs runner seen place rs [] runs
    → IsStopped o jobs runner seen (place + length rs) more later
    → IsStopped o jobs runner seen place (rs ++ more) (runs ++ later)
stopped_behind o jobs runner seen place rs more runs later was stop =
    let long = length-append rs stop.worked in
    record {
      worked = rs ++ stop.worked;
      last = stop.last;
      told = runs ++ stop.told;
      rest = stop.rest;
      receipts_are =
          ap (λ (l : List Receipt). rs ++ l) stop.receipts_are
          ∙ sym (append_assoc rs stop.worked stop.last);
      runs_are =
          ap (λ (l : List Ran). runs ++ l) stop.runs_are ∙ sym (append_assoc runs stop.told stop.rest);
      follows = follow o jobs runner seen place rs stop.worked [] runs stop.told was stop.follows;
      stops =
          subst (λ n. StopsIn o jobs runner seen n stop.last stop.rest)
          {x = (place + length rs) + length stop.worked} (omega (arith, long)) stop.stops;
    }

pub stops_after : (table : TableId) (o : World) (jobs : ℕ → JobCall → JobReply)
    (held mid after : HeldPass) (first next last : List Ran) (walks most all : ℕ)
    (receipts : List Receipt) (did : List Did)
    → Works table o jobs held mid first next walks receipts did
    → StopsPass table o jobs most mid after next last → walks + most ≤ all
    → StopsPass table o jobs all held after first last
stops_after table o jobs held mid after first next last walks most all receipts did was off room =
    let same : mid.cpu ≡ held.cpu = was.piece.cpu in
    let place = length was.piece.before.receipts in
    let behind : length off.piece.before.receipts ≡ place + length receipts =
    gaining.receipts_then table held mid after receipts off.receipts did off.did walks off.walks
    was.piece off.piece in
    record {
      walks = walks + off.walks;
      few = (let few = off.few in omega (arith, few, room));
      receipts = receipts ++ off.receipts;
      did = did ++ off.did;
      told = was.told ++ off.told;
      piece =
          gaining.piece_then table held mid after receipts off.receipts did off.did walks off.walks
          was.piece off.piece;
      runs_are =
          off.runs_are ∙ (ap (λ (l : List Ran). l ++ off.told) was.runs_are
          ∙ append_assoc first was.told off.told);
      stopped = λ seen wider.
          stopped_behind o jobs held.cpu seen place receipts off.receipts was.told off.told
          (follow_wider o jobs held.cpu did seen place receipts [] was.told
          (λ d has. wider d (Contains-append_left did off.did d has)) was.follows)
          (subst₂ (λ n k. IsStopped o jobs n seen k off.receipts off.told) same behind
          (off.stopped seen (λ d has. wider d (Contains-append_right did off.did d has))));
    }

-- with more walks at most
pub more_stops : (table : TableId) (o : World) (jobs : ℕ → JobCall → JobReply)
    (held after : HeldPass) (first last : List Ran) (most all : ℕ) → most ≤ all
    → StopsPass table o jobs most held after first last
    → StopsPass table o jobs all held after first last
more_stops table o jobs held after first last most all less off = record {
  walks = off.walks;
  few = (let few = off.few in omega (arith, few, less));
  receipts = off.receipts;
  did = off.did;
  told = off.told;
  piece = off.piece;
  runs_are = off.runs_are;
  stopped = off.stopped;
}

-- nothing done, for want of memory
pub no_stop : (table : TableId) (o : World) (jobs : ℕ → JobCall → JobReply)
    (held after : HeldPass) (most : ℕ) (first last : List Ran) → last ≡ first
    → Piece table held after [] [] 0 → StopsPass table o jobs most held after first last
unfolding Follows
no_stop table o jobs held after most first last same piece = record {
  walks = 0;
  few = omega arith;
  receipts = [];
  did = [];
  told = [];
  piece = piece;
  runs_are = same ∙ sym (append-nil first);
  stopped = λ seen wider. record {
    worked = [];
    last = [];
    told = [];
    rest = [];
    receipts_are = refl;
    runs_are = refl;
    follows = (refl, refl);
    stops = inl (refl, refl);
  };
}

-- stopped in a drain, with nothing before it
drained_in_part : (o : World) (jobs : ℕ → JobCall → JobReply) (home runner : ℕ) (class : Class)
    (items : List Item) (seen : List Did) (place : ℕ) (outs armings : List Receipt)
    (told : List Ran) → HandsOutItems home runner class items outs → AreArmings armings
    → FollowsInPart o jobs runner seen place (outs ++ armings) [] told
    → IsStopped o jobs runner seen place (outs ++ armings) told
unfolding Follows
drained_in_part o jobs home runner class items seen place outs armings told hands armed follows =
    record {
      worked = [];
      last = outs ++ armings;
      told = [];
      rest = told;
      receipts_are = refl;
      runs_are = refl;
      follows = (refl, refl);
      stops = inr (record {
        home = home;
        class = class;
        whole = record {
          items = items;
          outs = outs;
          armings = armings;
          receipts_are = refl;
          hands = hands;
          armed = armed;
        };
        follows =
            subst (λ n. FollowsInPart o jobs runner seen n (outs ++ armings) [] told) {x = place}
            {y = place + length {A = Receipt} []} (omega arith) follows;
      });
    }

module _ (table : TableId) (o : World) (jobs : ℕ → JobCall → JobReply) (class : Class)
    (held mid after : HeldPass) (items : List Item) (capacity : ℕ) (before now : List Ran)
    (out : HasHanded table o class held mid items capacity before) where
  out_cpu : mid.cpu ≡ held.cpu
  out_cpu = out.piece.cpu

  hands_of : (home : ℕ) → home ≡ held.cpu → HandsOutItems home mid.cpu class items out.receipts
  hands_of home own =
      subst (λ n. HandsOutItems n mid.cpu class items out.receipts) (sym own)
      (subst (λ n. HandsOutItems held.cpu n class items out.receipts) (sym out_cpu) out.hands)

  -- what went out, and then the jobs
  all_drained : (home : ℕ) → home ≡ held.cpu
      → RanAllArming table o jobs home items mid after before now
      → DrainsOwn table o jobs class held after before now
  all_drained home own (ran, armed) =
      let t = tick_of held.cpu held.cpu class items out.receipts out.hands in
      record {
        receipts = out.receipts ++ ran.receipts;
        did = ran.did;
        works = record {
          told = ran.told;
          piece =
              gaining.piece_then table held mid after out.receipts ran.receipts [] ran.did 0 0
              out.piece ran.piece;
          runs_are = ran.runs_are;
          follows =
              subst (λ n. Follows o jobs n ran.did (length out.piece.before.receipts)
              (out.receipts ++ ran.receipts) [] ran.told) out_cpu
              (ran.follows class out.receipts (length out.piece.before.receipts)
              (sym (gaining.receipts_then table held mid after out.receipts ran.receipts [] ran.did 0
              0 out.piece ran.piece)) (hands_of home own));
        };
        ticked = record {
          receipt = t.0;
          has = Contains-append_left out.receipts ran.receipts t.0 t.1;
          home = t.2.cpu;
          by = t.2.by;
          act = t.2.act;
          of_class = t.2.of_class;
        };
        whole = record {
          items = items;
          outs = out.receipts;
          armings = ran.receipts;
          receipts_are = refl;
          hands = out.hands;
          armed = armed;
        };
      }

  -- or a part of them
  part_drained : (home : ℕ) → home ≡ held.cpu
      → RanInPart table o jobs home items mid after before now
      → StopsPass table o jobs 0 held after before now
  part_drained home own ran =
      let place = length out.piece.before.receipts in
      let behind = sym (gaining.receipts_then table held mid after out.receipts ran.receipts []
      ran.did 0 0 out.piece ran.piece) in
      record {
        walks = 0;
        few = omega arith;
        receipts = out.receipts ++ ran.receipts;
        did = ran.did;
        told = ran.told;
        piece =
            gaining.piece_then table held mid after out.receipts ran.receipts [] ran.did 0 0 out.piece
            ran.piece;
        runs_are = ran.runs_are;
        stopped = λ seen wider.
            drained_in_part o jobs held.cpu held.cpu class items seen place out.receipts ran.receipts
            ran.told out.hands ran.armed
            (subst (λ n. FollowsInPart o jobs n seen place (out.receipts ++ ran.receipts) [] ran.told)
            out_cpu (ran.follows seen wider class out.receipts place behind (hands_of home own)));
      }

  pub drained : {T E : Type 0} (home : ℕ) (result : Result T E) → home ≡ held.cpu
      → MatchResult result (λ (d : T). RanAllArming table o jobs home items mid after before now)
      (λ (e : E). RanInPart table o jobs home items mid after before now)
      → MatchResult result (λ (d : T). DrainsOwn table o jobs class held after before now)
      (λ (e : E). StopsPass table o jobs 0 held after before now)
  drained home (Ok d) own ran = all_drained home own ran
  drained home (Err e) own ran = part_drained home own ran

-- A TRY of a CPU whose timers went out, where memory was wanting for armings
module _ (table : TableId) (o : World) (jobs : ℕ → JobCall → JobReply) (d : ℕ)
    (items : List Item) (held mid ran after : HeldPass) (was : AtWork table o [] 1 held)
    (taken : HasTakenTimers table o d items held mid) (first now last : List Ran)
    (part : RanInPart table o jobs d items mid ran now last)
    (gone : HasLetGo table o d ran after) where
  abbrev every : List Did
  every = (taken.did ++ part.did) ++ gone.did

  abbrev through : Piece table held after (taken.receipts ++ part.receipts) every
      (0 + 0 + gone.walks)
  through =
      let p = taken.before in
      let q = part.piece.before in
      let r = part.piece.later in
      let same = gaining.same_pass table mid q taken.later part.piece.had taken.has in
      let later = gaining.same_pass table ran gone.before r gone.had part.piece.has in
      let known = gaining.same_pass table held p was.pass taken.had was.seated in
      let none : p.marks ≡ [] = ap (λ (x : PassView). x.marks) known ∙ was.marked in
      let one = gains_with [] (with_marks (d ∷ []) p) taken.later taken.receipts taken.did 0
      taken.gains in
      let two = gains_with [] q r part.receipts part.did 0 part.piece.gains in
      let three = subst (λ (x : PassView). PassGains (with_marks [] x) gone.later [] gone.did
      gone.walks) later gone.gains in
      let both = gaining.gains_then (with_marks [] p) (with_marks [] taken.later) (with_marks [] r)
      taken.receipts part.receipts taken.did part.did 0 0 one
      (subst (λ (x : PassView). PassGains (with_marks [] x) (with_marks [] r) part.receipts part.did
      0) same two) in
      let gains = gaining.gains_then (with_marks [] p) (with_marks [] r) gone.later
      (taken.receipts ++ part.receipts) [] (taken.did ++ part.did) gone.did (0 + 0) gone.walks both
      three in
      record {
        before = p;
        later = gone.later;
        had = taken.had;
        has = gone.has;
        cpu = gone.cpu ∙ (part.piece.cpu ∙ taken.cpu);
        gains =
            subst (λ (l : List Receipt). PassGains p gone.later l every (0 + 0 + gone.walks))
            (append-nil (taken.receipts ++ part.receipts))
            (subst (λ (m : List ℕ). PassGains (record p { marks = m }) gone.later
            ((taken.receipts ++ part.receipts) ++ []) every (0 + 0 + gone.walks)) (sym none) gains);
      }

  -- the hand-outs were the last receipts before the jobs
  were_last : length taken.before.receipts + length taken.receipts
      ≡ length part.piece.before.receipts
  were_last =
      let same = gaining.same_pass table mid part.piece.before taken.later part.piece.had taken.has in
      sym (ap (λ (x : PassView). length x.receipts) same
      ∙ (ap length taken.gains.receipts_are
      ∙ length-append taken.before.receipts taken.receipts))

  part_served : now ≡ first → StopsPass table o jobs 1 held after first last
  part_served same =
      let place = length taken.before.receipts in
      let rs = taken.receipts ++ part.receipts in
      record {
        walks = 0 + 0 + gone.walks;
        few = (let low = gone.few in omega (arith, low));
        receipts = rs;
        did = every;
        told = part.told;
        piece = through;
        runs_are = part.runs_are ∙ ap (λ (l : List Ran). l ++ part.told) same;
        stopped = λ seen wider.
            drained_in_part o jobs d held.cpu Global items seen place taken.receipts part.receipts
            part.told taken.outs part.armed
            (subst (λ n. HandsOutItems d n Global items taken.receipts →
            FollowsInPart o jobs n seen place rs [] part.told) taken.cpu
            (part.follows seen
            (λ x has. wider x (Contains-append_left (taken.did ++ part.did) gone.did x
            (Contains-append_right taken.did part.did x has)))
            Global taken.receipts place were_last)
            taken.outs);
      }

-- either way, by what the jobs came to
pub tried_either : (table : TableId) (o : World) (jobs : ℕ → JobCall → JobReply) (d : ℕ)
    (items : List Item) (held mid ran after : HeldPass) (first now last : List Ran)
    (result : Result (Unit {0}) NoMemory) → AtWork table o [] 1 held
    → HasTakenTimers table o d items held mid → now ≡ first
    → MatchResult result (λ done. RanAllArming table o jobs d items mid ran now last)
    (λ e. RanInPart table o jobs d items mid ran now last) → HasLetGo table o d ran after
    → MatchResult result (λ done. HasTried table o jobs d held after first last)
    (λ e. StopsPass table o jobs 1 held after first last)
tried_either table o jobs d items held mid ran after first now last (Ok done) was taken same all
    gone =
    served_either table o jobs d items held mid ran after first now last (Ok done) was taken same
    all.0 gone
tried_either table o jobs d items held mid ran after first now last (Err e) was taken same part
    gone =
    part_served table o jobs d items held mid ran after was taken first now last part gone same

-- with the mark set the CPU is still at work after the jobs
pub marked_work : (table : TableId) (o : World) (jobs : ℕ → JobCall → JobReply) (d : ℕ)
    (items : List Item) (mid ran : HeldPass) (now last : List Ran)
    (result : Result (Unit {0}) NoMemory) → AtWork table o (d ∷ []) 1 mid
    → MatchResult result (λ done. RanAllArming table o jobs d items mid ran now last)
    (λ e. RanInPart table o jobs d items mid ran now last) → AtWork table o (d ∷ []) 1 ran
marked_work table o jobs d items mid ran now last (Ok done) was all =
    still_at_work table o (d ∷ []) 1 1 mid ran all.0.receipts all.0.did 0 was all.0.piece
    (omega arith)
marked_work table o jobs d items mid ran now last (Err e) was part =
    still_at_work table o (d ∷ []) 1 1 mid ran part.receipts part.did 0 was part.piece (omega arith)
