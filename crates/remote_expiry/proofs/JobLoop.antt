-- the jobs of timers that went out, one after the other
use Rattle.std.proofs.Common.{◌≡◌, ℕ, List, [], ◌∷◌, ◌++◌, refl, sym, ap, ◌∙◌}
use Rattle.std.proofs.Common.{subst, append-nil, append_assoc, Result, Ok, Err, ◌≤◌}
use Rattle.std.proofs.Common.{length, length-append, length-take-le, arith, take, ◌+◌, ◌<◌}
use Rattle.std.specs.Prelude.{MatchResult, OnOk}
use Rattle.std.specs.Result.{result_and}
use Rattle.std.proofs.lemmas.List.{length_push}
use Rattle.std.proofs.lemmas.List.Elements.{Contains-append_left, Contains-append_right}
use Rattle.atomic_table.specs.Seated.{TableId}
use Rattle.tm_base.specs.declared.faults.NoMemory.{NoMemory}
use Rattle.wheel_core.specs.declared.item.Item.{Item}
use Rattle.core_world.specs.World.{World}
use Rattle.job_table.specs.declared.jobs.JobCall.{JobCall}
use Rattle.job_table.specs.declared.jobs.JobReply.{JobReply}
use Rattle.walk_inactive.specs.shared_rule.declared.parts.Did.{Did}
use Rattle.walk_inactive.specs.shared_rule.declared.parts.PassView.{PassView}
use Rattle.walk_inactive.specs.shared_rule.declared.parts.Receipt.{Receipt}
use Rattle.walk_inactive.specs.shared_rule.Passes.{HeldPass, IsPassIn}
use Rattle.shared_acts.specs.declared.runs.Ran.{Ran}
use Rattle.shared_acts.specs.Following.{Follows}
use Rattle.shared_acts.specs.Pieces.{Piece}
use Rattle.shared_acts.proofs.Follow.{told_wider}
use Rattle.shared_acts.proofs.Gaining.{no_piece, piece_then, receipts_then}
use Rattle.remote_expiry.specs.Running.{ArmsAgain, HasAnsweredJob, HasRunJob, HasToldNone, HasToldRun, IsRunFromBase}
use Rattle.remote_expiry.specs.Order.{AreArmings}
use Rattle.remote_expiry.specs.Running.{IsRan, RanAllArming, RanInPart, call_to}
use Rattle.remote_expiry.specs.Stopping.{AsksAgain, FollowsInPart}
use Rattle.remote_expiry.proofs.Running.{AllOf, PartOf, all_more, all_run, all_wider, arming_alone}
use Rattle.remote_expiry.proofs.Running.{armings_behind, part_more, part_run, part_skip, part_wider}

-- A JOB whose reply was done was run
pub was_run : (table : TableId) (o : World) (jobs : ℕ → JobCall → JobReply) (home : ℕ) (i : Item)
    (held after : HeldPass) (job : JobReply) (x : Ran)
    → job ≡ jobs i.job (call_to o.clock held.cpu i) → IsRunFromBase home i x
    → HasAnsweredJob table o i job held after x.reply
    → HasRunJob table o jobs home i held after x
was_run table o jobs home i held after job x same is answered =
    let a = subst (λ (j : JobReply). HasAnsweredJob table o i j held after x.reply) same answered in
    record {
      receipts = a.receipts;
      did = a.did;
      piece = a.piece;
      is = record { is = is; told = a.told };
      arms = a.arms;
    }

-- THE JOBS SO FAR, of these timers: what the pass gained, and what is told
pub record RunsSoFar (table : TableId) (o : World) (jobs : ℕ → JobCall → JobReply) (home : ℕ)
    (items : List Item) (held now : HeldPass) (before runs : List Ran)
    (ended : Result Unit NoMemory) : Type 0 where
  pub receipts : List Receipt
  pub did : List Did
  pub told : List Ran
  pub piece : Piece table held now receipts did 0
  pub runs_are : runs ≡ before ++ told
  pub armed : AreArmings receipts
  pub part : PartOf o jobs home held.cpu (length piece.before.receipts) did items told receipts
  pub all : OnOk ended
      (AllOf o jobs home held.cpu (length piece.before.receipts) did items told receipts)
  pub few : length told ≤ length items

module _ (table : TableId) (o : World) (jobs : ℕ → JobCall → JobReply) (home : ℕ)
    (held : HeldPass) (before : List Ran) where
  -- none yet
  pub no_runs : (p : PassView) → IsPassIn table held p → (done : Unit)
      → RunsSoFar table o jobs home [] held held before before (Ok done)
  unfolding PartOf AllOf
  no_runs p is done = record {
    receipts = [];
    did = [];
    told = [];
    piece = no_piece table held p is;
    runs_are = sym (append-nil before);
    armed = tt;
    part = (refl, refl);
    all = (refl, refl);
    few = omega arith;
  }

  module _ (items : List Item) (i : Item) (now next : HeldPass) (runs : List Ran)
      (ended : Result Unit NoMemory)
      (h : RunsSoFar table o jobs home items held now before runs ended) where
    -- how many receipts there were before the jobs
    abbrev first : ℕ
    first = length h.piece.before.receipts

    -- one more that is told, by what was seen up to it
    module _ (x : Ran) (r : HasRunJob table o jobs home i now next x) where
      abbrev wide : List Did
      wide = h.did ++ r.did

      new_run : IsRan o jobs home held.cpu first wide i x
      new_run =
          let count = length r.piece.before.receipts in
          let is : IsRan o jobs home held.cpu count r.did i x =
          subst (λ n. IsRan o jobs home n count r.did i x) h.piece.cpu r.is in
          let grown : count ≡ first + length h.receipts =
          receipts_then table held now next h.receipts r.receipts h.did r.did 0 0 h.piece r.piece in
          record {
            is = is.is;
            told = λ place low.
                told_wider o i.id place r.did wide (jobs i.job (call_to o.clock held.cpu i)) x.reply
                (Contains-append_right h.did r.did) (is.told place (omega (arith, low, grown)));
          }

      new_arms : ArmsAgain o.clock held.cpu i (jobs i.job (call_to o.clock held.cpu i)) x.reply
          r.receipts
      new_arms =
          subst (λ n. ArmsAgain o.clock n i (jobs i.job (call_to o.clock n i)) x.reply r.receipts)
          h.piece.cpu r.arms

      part_told : PartOf o jobs home held.cpu first wide (items ++ i ∷ []) (h.told ++ x ∷ [])
          (h.receipts ++ r.receipts)
      part_told =
          part_more o jobs home held.cpu first wide items i h.told x h.receipts r.receipts
          (part_wider o jobs home held.cpu first h.did wide items h.told h.receipts
          (Contains-append_left h.did r.did) h.part) new_run new_arms

      -- after an answer so far
      all_told : (ended : Result Unit NoMemory)
          → OnOk ended (AllOf o jobs home held.cpu first h.did items h.told h.receipts)
          → OnOk ended (AllOf o jobs home held.cpu first wide (items ++ i ∷ []) (h.told ++ x ∷ [])
          (h.receipts ++ r.receipts))
      all_told (Err e) was = tt
      all_told (Ok done) was =
          all_more o jobs home held.cpu first wide items i h.told x h.receipts r.receipts
          (all_wider o jobs home held.cpu first h.did wide items h.told h.receipts
          (Contains-append_left h.did r.did) was) new_run new_arms

    one_told : (x : Ran) (more : List Ran) → HasRunJob table o jobs home i now next x
        → more ≡ runs ++ x ∷ []
        → RunsSoFar table o jobs home (items ++ i ∷ []) held next before more ended
    one_told x more r is = record {
      receipts = h.receipts ++ r.receipts;
      did = h.did ++ r.did;
      told = h.told ++ x ∷ [];
      piece =
          piece_then table held now next h.receipts r.receipts h.did r.did 0 0 h.piece r.piece;
      runs_are =
          is
          ∙ (ap (λ (xs : List Ran). xs ++ x ∷ []) h.runs_are ∙ append_assoc before h.told (x ∷ []));
      armed =
          armings_behind h.receipts r.receipts h.armed
          (arming_alone o.clock now.cpu i (jobs i.job (call_to o.clock now.cpu i)) x.reply r.receipts
          r.arms);
      part = part_told x r;
      all = all_told x r ended h.all;
      few = (let a = length_push h.told x in let b = length_push items i in let c = h.few in
          omega (arith, a, b, c));
    }

    -- and one that isn't
    none_told : (e : NoMemory) (same : List Ran) → Piece table now next [] [] 0 → same ≡ runs
        → AsksAgain (jobs i.job (call_to o.clock now.cpu i))
        → RunsSoFar table o jobs home (items ++ i ∷ []) held next before same (Err e)
    none_told e same piece is asked = record {
      receipts = h.receipts ++ [];
      did = h.did ++ [];
      told = h.told;
      piece = piece_then table held now next h.receipts [] h.did [] 0 0 h.piece piece;
      runs_are = is ∙ h.runs_are;
      armed = armings_behind h.receipts [] h.armed tt;
      part =
          subst (PartOf o jobs home held.cpu first (h.did ++ []) (items ++ i ∷ []) h.told)
          (sym (append-nil h.receipts))
          (part_skip o jobs home held.cpu first (h.did ++ []) items i h.told h.receipts
          (part_wider o jobs home held.cpu first h.did (h.did ++ []) items h.told h.receipts
          (Contains-append_left h.did []) h.part)
          (subst (λ n. AsksAgain (jobs i.job (call_to o.clock n i))) h.piece.cpu asked));
      all = tt;
      few = (let b = length_push items i in let c = h.few in omega (arith, b, c));
    }

  -- ONE MORE
  pub runs_more : (items more : List Item) (i : Item) (now next : HeldPass) (runs later : List Ran)
      (ended told new : Result Unit NoMemory)
      → RunsSoFar table o jobs home items held now before runs ended
      → MatchResult told (λ done. HasToldRun table o jobs home i now next runs later)
      (λ e. HasToldNone table o jobs i now next runs later)
      → new ≡ result_and ended told → more ≡ items ++ i ∷ []
      → RunsSoFar table o jobs home more held next before later new
  runs_more items more i now next runs later ended told new h has is grown =
      subst (λ (xs : List Item). RunsSoFar table o jobs home xs held next before later new)
      (sym grown)
      (subst (RunsSoFar table o jobs home (items ++ i ∷ []) held next before later) (sym is)
      (both ended told h has))
    where
      both : (ended told : Result Unit NoMemory)
          → RunsSoFar table o jobs home items held now before runs ended
          → MatchResult told (λ done. HasToldRun table o jobs home i now next runs later)
          (λ e. HasToldNone table o jobs i now next runs later)
          → RunsSoFar table o jobs home (items ++ i ∷ []) held next before later
          (result_and ended told)
      both (Ok a) (Ok b) h has =
          one_told items i now next runs (Ok a) h has.run later has.has has.runs_are
      both (Ok a) (Err e) h has =
          none_told items i now next runs (Ok a) h e later has.piece has.runs_are has.asked
      both (Err e) (Ok b) h has =
          one_told items i now next runs (Err e) h has.run later has.has has.runs_are
      both (Err e) (Err f) h has =
          none_told items i now next runs (Err e) h e later has.piece has.runs_are has.asked

  -- there is room for the next
  pub has_room : (items : List Item) (index capacity : ℕ) (now : HeldPass) (runs : List Ran)
      (ended : Result Unit NoMemory) → index < length items
      → RunsSoFar table o jobs home (take index items) held now before runs ended
      → length before + length items ≤ capacity → length runs < capacity
  has_room items index capacity now runs ended low h room =
      let long = ap length h.runs_are in let both = length-append before h.told in
      let few = h.few in let front = length-take-le index items (omega (arith, low)) in
      omega (arith, low, long, both, few, front, room)

  -- ALL OF THEM
  pub all_runs : (items : List Item) (after : HeldPass) (runs : List Ran)
      (ended : Result Unit NoMemory)
      → RunsSoFar table o jobs home items held after before runs ended
      → MatchResult ended (λ done. RanAllArming table o jobs home items held after before runs)
      (λ e. RanInPart table o jobs home items held after before runs)
  unfolding AllOf Follows PartOf FollowsInPart
  all_runs items after runs (Ok done) h = (
    record {
      receipts = h.receipts;
      did = h.did;
      told = h.told;
      piece = h.piece;
      runs_are = h.runs_are;
      follows = λ class outs place last hands.
          all_run o jobs home held.cpu class (length h.piece.before.receipts) h.did place items outs []
          h.receipts h.told [] (omega (arith, last)) hands h.all refl;
    },
    h.armed,
  )
  all_runs items after runs (Err e) h = record {
    receipts = h.receipts;
    did = h.did;
    told = h.told;
    piece = h.piece;
    runs_are = h.runs_are;
    armed = h.armed;
    follows = λ seen wider class outs place last hands.
        part_run o jobs home held.cpu class (length h.piece.before.receipts) seen place items outs []
        h.receipts h.told [] (omega (arith, last)) hands
        (part_wider o jobs home held.cpu (length h.piece.before.receipts) h.did seen items h.told
        h.receipts wider h.part) refl;
  }
