-- the rounds of a look at one level, and the levels one above the other
use Rattle.std.proofs.Common.{◌≡◌, ◌⊎◌, ⊎_elim, inl, inr, ℕ, zero, suc, ◌+◌, ◌*◌, ◌-◌, ◌<◌, ◌≤◌}
use Rattle.std.proofs.Common.{Bool, true, false, List, [], ◌∷◌, ◌++◌, Contains, refl, sym, ap, ◌∙◌}
use Rattle.std.proofs.Common.{None, eqb, ne_eqb, map, length, subst, arith}
use Rattle.std.specs.Prelude.{◌||◌}
use Rattle.std.proofs.lemmas.Bool.{cases_eq}
use Rattle.std.proofs.lemmas.List.{append-nil, append_assoc}
use Rattle.std.proofs.lemmas.List.Elements.{Contains-append_left, Contains-append_right}
use Rattle.std.specs.FinSet.{contains, contains-empty, contains-insert, empty, insert}
use Rattle.std.specs.Cmp.{nat_cmp_total, unsigned_tied}
use Rattle.std.specs.Ordering.{nat_cmp}
use Rattle.atomic_table.specs.Seated.{TableId}
use Rattle.tm_base.specs.CpuSet as cpus
use Rattle.tree_plan.specs.Paths.{group_at_of, level_count_of}
use Rattle.core_world.specs.World.{World}
use Rattle.job_table.specs.declared.jobs.JobCall.{JobCall}
use Rattle.job_table.specs.declared.jobs.JobReply.{JobReply}
use Rattle.walk_inactive.specs.shared_rule.declared.parts.Deed.{Deed}
use Rattle.walk_inactive.specs.shared_rule.declared.parts.Deed.TheVariants as deeds
use Rattle.walk_inactive.specs.shared_rule.declared.parts.Did.{Did}
use Rattle.walk_inactive.specs.shared_rule.declared.parts.Receipt.{Receipt}
use Rattle.walk_inactive.specs.shared_rule.declared.parts.PassView.{PassView}
use Rattle.walk_inactive.specs.shared_rule.Passes.{HeldPass, IsPassIn}
use Rattle.shared_acts.specs.declared.runs.Ran.{Ran}
use Rattle.shared_acts.specs.Looks.{HasLookEnded, HasLookedAtGroup, IsClosed, IsLeftAlone, IsServed, IsTried}
use Rattle.shared_acts.specs.Looks.{LooksFrom, saw}
use Rattle.shared_acts.specs.Pieces.{Piece, Works, deeds_of}
use Rattle.shared_acts.specs.Tries.{AtWork}
use Rattle.remote_expiry.specs.Trying.{BreaksRound, HasClimbedLevels, HasRounds, SeesEnd, SeesNothing}
use Rattle.remote_expiry.specs.Trying.{BeginsFrom, StopsPass, TriesOne}
use Rattle.walk_rules.specs.Hierarchy.{side}
use Rattle.walk_inactive.specs.shared_cpus.Pairs.{cpu_place}
use Rattle.shared_acts.specs.shared_looks.Sights.{LooksBy, slot_looks, state_look}
use Rattle.shared_acts.proofs.Gaining.{receipts_then, same_pass}
use Rattle.shared_acts.proofs.Served.{deeds_behind, idle_work, still_at_work}
use Rattle.shared_acts.proofs.Served.{works_then}
use Rattle.remote_expiry.proofs.Begun.{both_begin}
use Rattle.remote_expiry.proofs.Counted.{count_below, few_below, more_below}
use Rattle.remote_expiry.proofs.Stopped.{stops_after}

-- WITHIN: what one list contains another does
abbrev pub Within : (rs more : List Receipt) → Type 0
Within rs more = (r : Receipt) → Contains rs r → Contains more r

pub within_left : (rs more : List Receipt) → Within rs (rs ++ more)
within_left rs more r has = Contains-append_left rs more r has

pub within_right : (rs more : List Receipt) → Within more (rs ++ more)
within_right rs more r has = Contains-append_right rs more r has

-- A TRY that is closed is so among more deeds
closed_among : (o : World) (d : ℕ) (did front behind : List Deed) → IsClosed o d did
    → IsClosed o d (front ++ (did ++ behind))
closed_among o d did front behind (IsClosed.by_carrying before between after next is) =
    let took = deeds.Took d ∷ between in
    let end = deeds.Carried d next ∷ after in
    IsClosed.by_carrying (front ++ before) between (after ++ behind) next
    (ap (λ (l : List Deed). front ++ (l ++ behind)) is
    ∙ (ap (λ (l : List Deed). front ++ l) (append_assoc (before ++ took) end behind)
    ∙ (sym (append_assoc front (before ++ took) (end ++ behind))
    ∙ ap (λ (l : List Deed). l ++ (end ++ behind)) (sym (append_assoc front before took)))))
closed_among o d did front behind
    (IsClosed.by_release before between late after found s is state awake) =
    let took = deeds.Took d ∷ between in
    let look = deeds.Saw (cpu_place o d) found ∷ late in
    let end = deeds.Released d ∷ after in
    IsClosed.by_release (front ++ before) between late (after ++ behind) found s
    (ap (λ (l : List Deed). front ++ (l ++ behind)) is
    ∙ (ap (λ (l : List Deed). front ++ l) (append_assoc ((before ++ took) ++ look) end behind)
    ∙ (sym (append_assoc front ((before ++ took) ++ look) (end ++ behind))
    ∙ (ap (λ (l : List Deed). l ++ (end ++ behind))
    (sym (append_assoc front (before ++ took) look))
    ∙ ap (λ (l : List Deed). (l ++ look) ++ (end ++ behind))
    (sym (append_assoc front before took))))))
    state awake

among : (did front behind : List Deed) (x : Deed) → Contains did x
    → Contains (front ++ (did ++ behind)) x
among did front behind x has =
    Contains-append_right front (did ++ behind) x (Contains-append_left did behind x has)

left_among : (o : World) (looker d : ℕ) (did front behind : List Deed) → IsLeftAlone o looker d did
    → IsLeftAlone o looker d (front ++ (did ++ behind))
left_among o looker d did front behind (IsLeftAlone.by_word found s has state be) =
    IsLeftAlone.by_word found s (among did front behind _ has) state be
left_among o looker d did front behind (IsLeftAlone.by_slot found has none) =
    IsLeftAlone.by_slot found (among did front behind _ has) none

served_among : (o : World) (looker d : ℕ) (did front behind : List Deed)
    (receipts more : List Receipt) → Within receipts more → IsServed o looker d did receipts
    → IsServed o looker d (front ++ (did ++ behind)) more
served_among o looker d did front behind receipts more within s = record {
  drain = s.drain;
  has = within s.drain s.has;
  home = s.home;
  act = s.act;
  class = s.class;
  by = s.by;
  closed = closed_among o d did front behind s.closed;
}

-- a CPU that was tried was so among more
pub tried_among : (o : World) (looker d : ℕ) (did front behind : List Deed)
    (receipts more : List Receipt) → Within receipts more → IsTried o looker did receipts d
    → IsTried o looker (front ++ (did ++ behind)) more d
tried_among o looker d did front behind receipts more within (inl s) =
    inl (served_among o looker d did front behind receipts more within s)
tried_among o looker d did front behind receipts more within (inr l) =
    inr (left_among o looker d did front behind l)

-- further deeds behind, or others before
pub tried_behind : (o : World) (looker d : ℕ) (did later : List Did)
    (receipts more : List Receipt) → IsTried o looker (deeds_of did) receipts d
    → IsTried o looker (deeds_of (did ++ later)) (receipts ++ more) d
tried_behind o looker d did later receipts more tried =
    subst (λ l. IsTried o looker l (receipts ++ more) d) (sym (deeds_behind did later))
    (tried_among o looker d (deeds_of did) [] (deeds_of later) receipts (receipts ++ more)
    (within_left receipts more) tried)

pub tried_before : (o : World) (looker d : ℕ) (did later : List Did)
    (receipts more : List Receipt) → IsTried o looker (deeds_of later) more d
    → IsTried o looker (deeds_of (did ++ later)) (receipts ++ more) d
tried_before o looker d did later receipts more tried =
    subst (λ l. IsTried o looker l (receipts ++ more) d)
    (ap (λ l. deeds_of did ++ l) (append-nil (deeds_of later)) ∙ sym (deeds_behind did later))
    (tried_among o looker d (deeds_of later) (deeds_of did) [] more (receipts ++ more)
    (within_right receipts more) tried)

-- a piece begins with no fewer receipts than the one before it
pub later_piece : (table : TableId) (held mid after : HeldPass) (receipts more : List Receipt)
    (did later : List Did) (walks others : ℕ) (was : Piece table held mid receipts did walks)
    (then : Piece table mid after more later others) (p : PassView) → IsPassIn table held p
    → length p.receipts ≤ length then.before.receipts
later_piece table held mid after receipts more did later walks others was then p seated =
    let behind = receipts_then table held mid after receipts more did later walks others was then in
    let first = ap (λ (x : PassView). length x.receipts)
    (same_pass table held p was.before seated was.had) in
    omega (arith, behind, first)

-- THE ROUNDS so far: so many CPUs were tried, each once
pub record RoundsSoFar (table : TableId) (o : World) (jobs : ℕ → JobCall → JobReply) (turns : ℕ)
    (tried : cpus.Cpus) (held now : HeldPass) (first runs : List Ran) : Type 0 where
  pub walks : ℕ
  pub receipts : List Receipt
  pub did : List Did
  pub few : walks ≤ turns
  pub counted : turns ≤ count_below tried (length o.cpus)
  pub works : Works table o jobs held now first runs walks receipts did
  pub each : (d : ℕ) → cpus.Contains tried d → IsTried o held.cpu (deeds_of did) receipts d
  pub begins : BeginsFrom table held did

pub no_round : (table : TableId) (o : World) (jobs : ℕ → JobCall → JobReply) (tried : cpus.Cpus)
    (held : HeldPass) (first : List Ran) → tried ≡ empty → Piece table held held [] [] 0
    → RoundsSoFar table o jobs 0 tried held held first first
no_round table o jobs tried held first none piece = record {
  walks = 0;
  receipts = [];
  did = [];
  few = omega arith;
  counted = omega arith;
  works = idle_work table o jobs held held [] 0 first first refl piece;
  each = λ d has.
      let on : contains tried d ≡ true = has in
      let off : contains tried d ≡ false = ap (λ s. contains s d) none ∙ contains-empty nat_cmp d in
      absurd (true_false (sym on ∙ off));
  begins = λ p is. tt;
}
  where
    true_false : true ≡ false → ⊥
    true_false e = cc

-- in a set with one more is that one, or what was
new_or_old : (s : cpus.Cpus) (d q : ℕ) → cpus.Contains (insert s d) q
    → (q ≡ d) ⊎ cpus.Contains s q
new_or_old s d q has =
    let both : (eqb q d || contains s q) ≡ true =
    sym (contains-insert nat_cmp_total s d q ∙ ap (λ t. t || contains s q) (unsigned_tied q d)) ∙ has in
    elim (cases_eq q d) [
      | inl is ↦ inl is
      | inr ne ↦ inr (sym (ap (λ t. t || contains s q) (ne_eqb q d ne)) ∙ both)
    ]

not_in : (s : cpus.Cpus) (d : ℕ) → (cpus.Contains s d → ⊥) → contains s d ≡ false
not_in s d out = at (contains s d) refl
  where
    at : (b : Bool) → contains s d ≡ b → contains s d ≡ false
    at true is = absurd (out is)
    at false is = is

pub one_round : (table : TableId) (o : World) (jobs : ℕ → JobCall → JobReply) (turns next : ℕ)
    (old new : cpus.Cpus) (held now after : HeldPass) (first runs last : List Ran)
    → RoundsSoFar table o jobs turns old held now first runs
    → TriesOne table o jobs old new now after runs last → next ≡ suc turns
    → RoundsSoFar table o jobs next new held after first last
one_round table o jobs turns next old new held now after first runs last was one is =
    let same : now.cpu ≡ held.cpu = was.works.piece.cpu in
    record {
      walks = was.walks + one.walks;
      receipts = was.receipts ++ one.receipts;
      did = was.did ++ one.did;
      few = (let a = was.few in let b = one.few in omega (arith, a, b, is));
      counted =
          (let a = was.counted in
          let b = more_below old one.due (length o.cpus) (not_in old one.due one.untried) one.of_run in
          let c = ap (λ s. count_below s (length o.cpus)) one.added in omega (arith, a, b, c, is));
      works =
          works_then table o jobs held now after first runs last was.walks one.walks was.receipts
          one.receipts was.did one.did was.works one.works;
      each = λ d has. ⊎_elim
          (λ new.
          tried_before o held.cpu d was.did one.did was.receipts one.receipts
          (subst (λ n. IsTried o n (deeds_of one.did) one.receipts d) same
          (subst (IsTried o now.cpu (deeds_of one.did) one.receipts) (sym new) one.tried)))
          (λ there.
          tried_behind o held.cpu d was.did one.did was.receipts one.receipts (was.each d there))
          (new_or_old old one.due d (subst (λ s. cpus.Contains s d) one.added has));
      begins = λ p seated.
          both_begin (length p.receipts) (length one.works.piece.before.receipts) was.did one.did
          (later_piece table held now after was.receipts one.receipts was.did one.did was.walks
          one.walks was.works.piece one.works.piece p seated) (was.begins p seated)
          (one.begins one.works.piece.before one.works.piece.had);
    }

-- as many as there are CPUs, at most
pub few_rounds : (table : TableId) (o : World) (jobs : ℕ → JobCall → JobReply) (turns : ℕ)
    (tried : cpus.Cpus) (held now : HeldPass) (first runs : List Ran)
    → RoundsSoFar table o jobs turns tried held now first runs → turns ≤ length o.cpus
few_rounds table o jobs turns tried held now first runs was =
    let low = few_below tried (length o.cpus) in
    let count = was.counted in omega (arith, low, count)

-- a round more may begin
pub round_work : (table : TableId) (o : World) (jobs : ℕ → JobCall → JobReply) (turns : ℕ)
    (tried : cpus.Cpus) (held now : HeldPass) (first runs : List Ran)
    → RoundsSoFar table o jobs turns tried held now first runs → length o.cpus ≤ 512
    → AtWork table o [] 513 held → AtWork table o [] 1 now
round_work table o jobs turns tried held now first runs was many at_work =
    still_at_work table o [] 513 1 held now was.receipts was.did was.walks at_work was.works.piece
    (let a = was.few in
    let b = few_rounds table o jobs turns tried held now first runs was in
    omega (arith, a, b, many))

-- and is broken off
pub rounds_off : (table : TableId) (o : World) (jobs : ℕ → JobCall → JobReply) (turns : ℕ)
    (tried : cpus.Cpus) (held now after : HeldPass) (first runs last : List Ran)
    → RoundsSoFar table o jobs turns tried held now first runs → length o.cpus ≤ 512
    → BreaksRound table o jobs tried now after runs last → StopsPass table o jobs 512 held after first last
rounds_off table o jobs turns tried held now after first runs last was many round =
    let d = round.due in
    let n = length o.cpus in
    let one_more = more_below tried d n (not_in tried d round.untried) round.of_run in
    let most = few_below (insert tried d) n in
    stops_after table o jobs held now after first runs last was.walks 1 512 was.receipts was.did
    was.works round.off
    (let a = was.few in let b = was.counted in omega (arith, a, b, one_more, most, many))

-- nothing untried is due any more
pub rounds_up : (table : TableId) (o : World) (jobs : ℕ → JobCall → JobReply) (turns level : ℕ)
    (tried : cpus.Cpus) (held now after : HeldPass) (first runs last : List Ran)
    → RoundsSoFar table o jobs turns tried held now first runs → length o.cpus ≤ 512
    → SeesNothing table o level tried now after → last ≡ runs
    → HasRounds table o jobs level held after first last true
rounds_up table o jobs turns level tried held now after first runs last was many sees runs_are =
    let same : now.cpu ≡ held.cpu = was.works.piece.cpu in
    record {
      walks = was.walks + 0;
      receipts = was.receipts ++ [];
      did = was.did ++ sees.did;
      few =
          (let a = was.few in
          let b = few_rounds table o jobs turns tried held now first runs was in
          omega (arith, a, b, many));
      works =
          works_then table o jobs held now after first runs last was.walks 0 was.receipts [] was.did
          sees.did was.works (idle_work table o jobs now after sees.did 0 runs last runs_are sees.piece);
      looked =
          record {
            before = deeds_of was.did;
            tried = tried;
            group = sees.group;
            path = ap (λ n. group_at_of o.tree n level) (sym same) ∙ sees.path;
            word = sees.word;
            looks = subst (λ n. LooksBy sees.word (side o.tree n level)) same sees.looks;
            founds = sees.founds;
            eight = sees.eight;
            loads =
                deeds_behind was.did sees.did
                ∙ (ap (λ l. deeds_of was.did ++ l) sees.loads
                ∙ sym (append-nil (deeds_of was.did
                ++ map saw (state_look o sees.group sees.word ∷ slot_looks o sees.group 0 sees.founds))));
            none = sees.none;
            each = λ d has.
                subst (λ l. IsTried o held.cpu (deeds_of was.did) l d)
                (sym (append-nil was.receipts)) (was.each d has);
          };
      begins = λ p seated.
          both_begin (length p.receipts) (length sees.piece.before.receipts) was.did sees.did
          (later_piece table held now after was.receipts [] was.did sees.did was.walks 0
          was.works.piece sees.piece p seated) (was.begins p seated)
          (sees.begins sees.piece.before sees.piece.had);
    }

-- a look that ends is so behind other deeds
ended_behind : (o : World) (looker level : ℕ) (front did : List Deed)
    → HasLookEnded o looker level did → HasLookEnded o looker level (front ++ did)
ended_behind o looker level front did ended = record {
  before = front ++ ended.before;
  group = ended.group;
  path = ended.path;
  word = ended.word;
  other = ended.other;
  rest = ended.rest;
  load =
      ap (λ (l : List Deed). front ++ l) ended.load
      ∙ sym (append_assoc front ended.before (saw (state_look o ended.group ended.word) ∷ ended.rest));
}

-- or the look has come to its end
pub rounds_done : (table : TableId) (o : World) (jobs : ℕ → JobCall → JobReply) (turns level : ℕ)
    (tried : cpus.Cpus) (held now after : HeldPass) (first runs last : List Ran)
    → RoundsSoFar table o jobs turns tried held now first runs → length o.cpus ≤ 512
    → SeesEnd table o level now after → last ≡ runs
    → HasRounds table o jobs level held after first last false
rounds_done table o jobs turns level tried held now after first runs last was many sees runs_are =
    let same : now.cpu ≡ held.cpu = was.works.piece.cpu in
    record {
      walks = was.walks + 0;
      receipts = was.receipts ++ [];
      did = was.did ++ sees.did;
      few =
          (let a = was.few in
          let b = few_rounds table o jobs turns tried held now first runs was in
          omega (arith, a, b, many));
      works =
          works_then table o jobs held now after first runs last was.walks 0 was.receipts [] was.did
          sees.did was.works (idle_work table o jobs now after sees.did 0 runs last runs_are sees.piece);
      looked =
          ⊎_elim
          (λ (none : group_at_of o.tree now.cpu level ≡ None).
          inl (ap (λ n. group_at_of o.tree n level) (sym same) ∙ none))
          (λ (ended : HasLookEnded o now.cpu level (deeds_of sees.did)).
          inr (subst (HasLookEnded o held.cpu level) (sym (deeds_behind was.did sees.did))
          (ended_behind o held.cpu level (deeds_of was.did) (deeds_of sees.did)
          (subst (λ n. HasLookEnded o n level (deeds_of sees.did)) same ended))))
          sees.end;
      begins = λ p seated.
          both_begin (length p.receipts) (length sees.piece.before.receipts) was.did sees.did
          (later_piece table held now after was.receipts [] was.did sees.did was.walks 0
          was.works.piece sees.piece p seated) (was.begins p seated)
          (sees.begins sees.piece.before sees.piece.had);
    }

-- LOOKS among more: deeds before them, and more receipts
looked_with : (o : World) (looker level : ℕ) (receipts more : List Receipt)
    (front did rest behind : List Deed) → Within receipts more
    → HasLookedAtGroup o looker level receipts did rest
    → HasLookedAtGroup o looker level more (front ++ (did ++ behind)) (rest ++ behind)
looked_with o looker level receipts more front did rest behind within looked =
    let loads = map saw (state_look o looked.group looked.word
    ∷ slot_looks o looked.group 0 looked.founds) in
    record {
      before = front ++ looked.before;
      tried = looked.tried;
      group = looked.group;
      path = looked.path;
      word = looked.word;
      looks = looked.looks;
      founds = looked.founds;
      eight = looked.eight;
      loads =
          ap (λ (l : List Deed). front ++ (l ++ behind)) looked.loads
          ∙ (ap (λ (l : List Deed). front ++ l) (append_assoc (looked.before ++ loads) rest behind)
          ∙ (sym (append_assoc front (looked.before ++ loads) (rest ++ behind))
          ∙ ap (λ (l : List Deed). l ++ (rest ++ behind))
          (sym (append_assoc front looked.before loads))));
      none = looked.none;
      each = λ d has.
          subst (λ l. IsTried o looker (front ++ l) more d) (append-nil looked.before)
          (tried_among o looker d looked.before front [] receipts more within (looked.each d has));
    }

pub looks_behind : (o : World) (looker : ℕ) (rs more : List Receipt) (n level : ℕ)
    (front did : List Deed) → Within rs more → LooksFrom o looker rs n level did
    → LooksFrom o looker more n level (front ++ did)
unfolding LooksFrom
looks_behind o looker rs more zero level front did within h = tt
looks_behind o looker rs more (suc n) level front did within (inl none) = inl none
looks_behind o looker rs more (suc n) level front did within (inr (inl ended)) =
    inr (inl (ended_behind o looker level front did ended))
looks_behind o looker rs more (suc n) level front did within (inr (inr (rest, looked, above))) =
    inr (inr (
      rest ++ [],
      subst (λ l. HasLookedAtGroup o looker level more (front ++ l) (rest ++ [])) (append-nil did)
          (looked_with o looker level rs more front did rest [] within looked),
      subst (LooksFrom o looker more n (suc level)) (sym (append-nil rest))
          (looks_behind o looker rs more n (suc level) [] rest within above),
    ))

-- THE LEVELS so far: what is looked at further up completes the looks
pub record LevelsSoFar (table : TableId) (o : World) (jobs : ℕ → JobCall → JobReply) (level : ℕ)
    (held now : HeldPass) (first runs : List Ran) : Type 0 where
  pub walks : ℕ
  pub receipts : List Receipt
  pub did : List Did
  pub few : walks ≤ 512 * level
  pub works : Works table o jobs held now first runs walks receipts did
  pub looks : (rs : List Receipt) (rest : List Deed) → Within receipts rs
      → LooksFrom o held.cpu rs (level_count_of o.tree - level) level rest
      → LooksFrom o held.cpu rs (level_count_of o.tree) 0 (deeds_of did ++ rest)
  pub begins : BeginsFrom table held did

pub no_level : (table : TableId) (o : World) (jobs : ℕ → JobCall → JobReply) (held : HeldPass)
    (first : List Ran) → Piece table held held [] [] 0
    → LevelsSoFar table o jobs 0 held held first first
no_level table o jobs held first piece = record {
  walks = 0;
  receipts = [];
  did = [];
  few = omega arith;
  works = idle_work table o jobs held held [] 0 first first refl piece;
  looks = λ rs rest within h.
      subst (λ n. LooksFrom o held.cpu rs n 0 rest) {x = level_count_of o.tree - 0} (omega arith) h;
  begins = λ p is. tt;
}

one_lower : (levels level : ℕ) → level < levels → levels - level ≡ suc (levels - suc level)
one_lower levels level low = omega (arith, low)

-- one level more
pub one_level : (table : TableId) (o : World) (jobs : ℕ → JobCall → JobReply) (level next : ℕ)
    (held now after : HeldPass) (first runs last : List Ran)
    → LevelsSoFar table o jobs level held now first runs → level < level_count_of o.tree
    → HasRounds table o jobs level now after runs last true → next ≡ suc level
    → LevelsSoFar table o jobs next held after first last
unfolding LooksFrom
one_level table o jobs level next held now after first runs last was low rounds is =
    let same : now.cpu ≡ held.cpu = was.works.piece.cpu in
    record {
      walks = was.walks + rounds.walks;
      receipts = was.receipts ++ rounds.receipts;
      did = was.did ++ rounds.did;
      few = (let a = was.few in let b = rounds.few in omega (arith, a, b, is));
      works =
          works_then table o jobs held now after first runs last was.walks rounds.walks was.receipts
          rounds.receipts was.did rounds.did was.works rounds.works;
      looks = λ rs rest within above.
          let more : Within rounds.receipts rs =
          λ r has. within r (within_right was.receipts rounds.receipts r has) in
          let less : Within was.receipts rs =
          λ r has. within r (within_left was.receipts rounds.receipts r has) in
          let looked = subst (λ n. HasLookedAtGroup o n level rounds.receipts (deeds_of rounds.did) []) same
          rounds.looked in
          let here : HasLookedAtGroup o held.cpu level rs (deeds_of rounds.did ++ rest) rest =
          looked_with o held.cpu level rounds.receipts rs [] (deeds_of rounds.did) [] rest more looked in
          let further : LooksFrom o held.cpu rs (level_count_of o.tree - suc level) (suc level) rest =
          subst (λ n. LooksFrom o held.cpu rs (level_count_of o.tree - n) n rest) is above in
          let from_here : LooksFrom o held.cpu rs (suc (level_count_of o.tree - suc level)) level
          (deeds_of rounds.did ++ rest) =
          inr (inr (rest, here, further)) in
          subst (LooksFrom o held.cpu rs (level_count_of o.tree) 0)
          (sym (append_assoc (deeds_of was.did) (deeds_of rounds.did) rest)
          ∙ ap (λ l. l ++ rest) (sym (deeds_behind was.did rounds.did)))
          (was.looks rs (deeds_of rounds.did ++ rest) less
          (subst (λ n. LooksFrom o held.cpu rs n level (deeds_of rounds.did ++ rest))
          (sym (one_lower (level_count_of o.tree) level low)) from_here));
      begins = λ p seated.
          both_begin (length p.receipts) (length rounds.works.piece.before.receipts) was.did
          rounds.did
          (later_piece table held now after was.receipts rounds.receipts was.did rounds.did was.walks
          rounds.walks was.works.piece rounds.works.piece p seated) (was.begins p seated)
          (rounds.begins rounds.works.piece.before rounds.works.piece.had);
    }

-- the look has come to its end at a level
pub last_level : (table : TableId) (o : World) (jobs : ℕ → JobCall → JobReply) (level : ℕ)
    (held now after : HeldPass) (first runs last : List Ran)
    → LevelsSoFar table o jobs level held now first runs → level < level_count_of o.tree
    → level_count_of o.tree ≤ 3 → HasRounds table o jobs level now after runs last false
    → HasClimbedLevels table o jobs held after first last
unfolding LooksFrom
last_level table o jobs level held now after first runs last was low three rounds =
    let same : now.cpu ≡ held.cpu = was.works.piece.cpu in
    let rs = was.receipts ++ rounds.receipts in
    record {
      walks = was.walks + rounds.walks;
      receipts = rs;
      did = was.did ++ rounds.did;
      few = (let a = was.few in let b = rounds.few in omega (arith, a, b, low, three));
      works =
          works_then table o jobs held now after first runs last was.walks rounds.walks was.receipts
          rounds.receipts was.did rounds.did was.works rounds.works;
      looked =
          let here : LooksFrom o held.cpu rs (suc (level_count_of o.tree - suc level)) level
          (deeds_of rounds.did) = ⊎_elim
          (λ (none : group_at_of o.tree now.cpu level ≡ None).
          inl (ap (λ n. group_at_of o.tree n level) (sym same) ∙ none))
          (λ (ended : HasLookEnded o now.cpu level (deeds_of rounds.did)).
          inr (inl (subst (λ n. HasLookEnded o n level (deeds_of rounds.did)) same ended)))
          rounds.looked in
          subst (LooksFrom o held.cpu rs (level_count_of o.tree) 0)
          (sym (deeds_behind was.did rounds.did))
          (was.looks rs (deeds_of rounds.did) (within_left was.receipts rounds.receipts)
          (subst (λ n. LooksFrom o held.cpu rs n level (deeds_of rounds.did))
          (sym (one_lower (level_count_of o.tree) level low)) here));
      begins = λ p seated.
          both_begin (length p.receipts) (length rounds.works.piece.before.receipts) was.did
          rounds.did
          (later_piece table held now after was.receipts rounds.receipts was.did rounds.did was.walks
          rounds.walks was.works.piece rounds.works.piece p seated) (was.begins p seated)
          (rounds.begins rounds.works.piece.before rounds.works.piece.had);
    }

-- a level that the tree has, and the number of levels
pub below : (level end levels : ℕ) → end ≡ levels → level < end → level < levels
below level end levels is low = omega (arith, is, low)

pub up_to : (level end levels : ℕ) → end ≡ levels → level ≤ end → end ≤ level
    → level ≡ levels
up_to level end levels is most past = omega (arith, is, most, past)

-- what a look at a level answered
pub further_up : (table : TableId) (o : World) (jobs : ℕ → JobCall → JobReply) (level : ℕ)
    (held after : HeldPass) (first last : List Ran) (further : Bool) → further ≡ true
    → HasRounds table o jobs level held after first last further
    → HasRounds table o jobs level held after first last true
further_up table o jobs level held after first last true is rounds = rounds
further_up table o jobs level held after first last false is rounds = cc

pub no_further : (table : TableId) (o : World) (jobs : ℕ → JobCall → JobReply) (level : ℕ)
    (held after : HeldPass) (first last : List Ran) (further : Bool) → further ≡ false
    → HasRounds table o jobs level held after first last further
    → HasRounds table o jobs level held after first last false
no_further table o jobs level held after first last true is rounds = cc
no_further table o jobs level held after first last false is rounds = rounds

-- a level more may begin
pub level_work : (table : TableId) (o : World) (jobs : ℕ → JobCall → JobReply) (level : ℕ)
    (held now : HeldPass) (first runs : List Ran)
    → LevelsSoFar table o jobs level held now first runs → level < level_count_of o.tree
    → level_count_of o.tree ≤ 3 → AtWork table o [] 1537 held → AtWork table o [] 513 now
level_work table o jobs level held now first runs was low three at_work =
    still_at_work table o [] 1537 513 held now was.receipts was.did was.walks at_work
    was.works.piece (let a = was.few in omega (arith, a, low, three))

-- and is broken off
pub level_off : (table : TableId) (o : World) (jobs : ℕ → JobCall → JobReply) (level : ℕ)
    (held now after : HeldPass) (first runs last : List Ran)
    → LevelsSoFar table o jobs level held now first runs → level < level_count_of o.tree
    → level_count_of o.tree ≤ 3 → StopsPass table o jobs 512 now after runs last
    → StopsPass table o jobs 1536 held after first last
level_off table o jobs level held now after first runs last was low three off =
    stops_after table o jobs held now after first runs last was.walks 512 1536 was.receipts was.did
    was.works off (let a = was.few in omega (arith, a, low, three))

-- or goes up to the top
pub all_levels : (table : TableId) (o : World) (jobs : ℕ → JobCall → JobReply) (level : ℕ)
    (held now : HeldPass) (first runs : List Ran)
    → LevelsSoFar table o jobs level held now first runs → level ≡ level_count_of o.tree
    → level_count_of o.tree ≤ 3 → HasClimbedLevels table o jobs held now first runs
unfolding LooksFrom
all_levels table o jobs level held now first runs was is three =
    let none : LooksFrom o held.cpu was.receipts zero level [] = tt in
    record {
      walks = was.walks;
      receipts = was.receipts;
      did = was.did;
      few = (let a = was.few in omega (arith, a, is, three));
      works = was.works;
      looked =
          subst (LooksFrom o held.cpu was.receipts (level_count_of o.tree) 0)
          (append-nil (deeds_of was.did))
          (was.looks was.receipts [] (λ r has. has)
          (subst (λ n. LooksFrom o held.cpu was.receipts n level []) {x = zero} (omega (arith, is))
          none));
      begins = was.begins;
    }
