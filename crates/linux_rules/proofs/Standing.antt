-- at each line of a trace its exchanges stand in an order
use Rattle.std.proofs.Common.{◌≡◌, ℕ, ◌+◌, ◌≤◌, Bool, true, false, List, [], ◌∷◌, ◌++◌}
use Rattle.std.proofs.Common.{Option, Some, None, refl, sym, ◌∙◌, ap, subst, arith, inl, inr}
use Rattle.std.proofs.Common.{Result, Ok, Err, true≢false}
use Rattle.std.specs.Prelude.{◌==◌, ◌&&◌, ◌||◌, not, nat_lt, nat_le, find, length, is_some, if◌then◌else◌}
use Rattle.std.specs.List.{All, AllPass, list_any}
use Rattle.std.specs.List.Sorted.{IsPermutation}
use Rattle.std.proofs.lemmas.Option.{none-some, same_Some}
use Rattle.std.proofs.lemmas.Bool.{cases_Bool, cond-false, cond-true, eqb-true, le-leb}
use Rattle.std.proofs.lemmas.List.{append_assoc}
use Rattle.std.proofs.lemmas.List.Elements.{All-cons, All-head, All-nil, All-push, All-tail}
use Rattle.std.proofs.lemmas.List.Elements.{All-weaker}
use Rattle.std.proofs.lemmas.List.Sorted.{All-permutation, IsPermutation-cons}
use Rattle.std.proofs.lemmas.List.Sorted.{IsPermutation-refl, IsPermutation-sym}
use Rattle.std.proofs.lemmas.List.Sorted.{IsPermutation-to_front, IsPermutation-trans}
use Rattle.tm_base.specs.declared.names.CpuId.{CpuId}
use Rattle.linux_lines.specs.declared.events.Exchange.{Exchange}
use Rattle.linux_lines.specs.declared.events.CpuEvent.{CpuEvent}
use Rattle.linux_lines.specs.declared.events.Joining.{Joining}
use Rattle.linux_lines.specs.declared.events.Place.{Place}
use Rattle.linux_lines.specs.declared.events.Happening.{Happening}
use Rattle.linux_lines.specs.declared.events.Happening.TheVariants.{GroupMade, GroupJoined}
use Rattle.linux_lines.specs.declared.events.Happening.TheVariants.{CpuJoined, Exchanged, CpuTold}
use Rattle.linux_lines.specs.declared.events.Happening.TheVariants.{Updated, Handling}
use Rattle.linux_lines.specs.declared.events.Line.{Line}
use Rattle.linux_lines.specs.declared.events.Line.TheVariants as lines
use Rattle.linux_lines.specs.declared.events.Update.{Update}
use Rattle.linux_lines.specs.declared.faults.LineFault.{LineFault}
use Rattle.linux_lines.specs.Lines.{line_of}
use Rattle.linux_seen.specs.declared.seen.Late.{Late}
use Rattle.linux_seen.specs.declared.seen.Word.{Word}
use Rattle.linux_seen.specs.declared.seen.Look.{Look}
use Rattle.linux_seen.specs.declared.seen.Run.{Run}
use Rattle.linux_seen.specs.declared.seen.Run.TheVariants as runs
use Rattle.linux_seen.specs.Counts.{counted, MOST}
use Rattle.linux_seen.specs.Seen.{Sight, cpu_at, group_at, timed}
use Rattle.linux_seen.specs.Words.{follows, word_after}
use Rattle.linux_rules.specs.declared.judge.Course.{Course}
use Rattle.linux_rules.specs.Orders.{Waiting, caught_up, comes_first, is_held, is_next, is_on, may_precede}
use Rattle.linux_rules.specs.Orders.{taken, taken_on}
use Rattle.linux_rules.specs.Exchanges.{child_after, cpu_after, dated, group_after, learned_child}
use Rattle.linux_rules.specs.Exchanges.{learned_exchange, learned_walk, source_seen, waiting_after}
use Rattle.linux_rules.specs.Exchanges.{with_late, with_word, word_seen}
use Rattle.linux_rules.specs.Cpus.{first_seen, learned_place, learned_update, look_seen, moved_on, with_first}
use Rattle.linux_rules.specs.Cpus.{with_hung, with_leaf, with_link, with_look, with_named}
use Rattle.linux_rules.specs.Cpus.{with_writer}
use Rattle.linux_rules.specs.Queues.{with_event, with_group_event, with_hidden}
use Rattle.linux_rules.specs.Queues.{with_leaf_event}
use Rattle.linux_rules.specs.Judge.{learned, no_sight, noted, said_after, seen_after, start_behind, tally_after}
use Rattle.linux_rules.specs.Judge.{text_after}
use Rattle.linux_rules.specs.Witness.{HasOrder, IsInOrder, OrdersHold}
use Rattle.linux_rules.specs.Witness.{exchanges_after, exchanges_by, exchanges_said, follows_last}
use Rattle.linux_rules.specs.Witness.{may_follow}
use Rattle.linux_rules.proofs.Frames.{Alike, alike_cpu, alike_group, alike_same, alike_then}
use Rattle.linux_rules.proofs.Frames.{other_word, own_word, pointer_at, word_of}
use Rattle.linux_rules.proofs.Taking.{Catch, Caught, caught, first_part, last_part, next_first}
use Rattle.linux_rules.proofs.Taking.{next_last, pushed}

-- ---- what holds after each line

record Held (line : ℕ) (s : Sight) (all order : List Late) : Type 0 where
  ordered : IsInOrder order
  each : IsPermutation all (order ++ s.late)
  waits : All (λ a. AllPass (may_follow a) order) s.late
  words : (p : ℕ) (b : Late) → find (is_on p) order ≡ Some b →
      word_of s p ≡ Some (word_after b.exchange)
  known : All (λ a. is_some (word_of s a.exchange.place.group) ≡ true) all
  lines : All (λ a. a.line ≤ line) all

held_alike : (line : ℕ) (s t : Sight) (all order : List Late) → Alike s t → Held line s all order →
    Held line t all order
held_alike line s t all order a h = record {
  ordered = h.ordered;
  each = subst (λ ls. IsPermutation all (order ++ ls)) (sym a.late) h.each;
  waits = subst (λ ls. All (λ x. AllPass (may_follow x) order) ls) (sym a.late) h.waits;
  words = λ p b is. a.words p ∙ h.words p b is;
  known =
      All-weaker (λ x. is_some (word_of s x.exchange.place.group) ≡ true)
      (λ x. is_some (word_of t x.exchange.place.group) ≡ true)
      (λ x some. ap is_some (a.words x.exchange.place.group) ∙ some) all h.known;
  lines = h.lines;
}

held_later : (line later : ℕ) (s : Sight) (all order : List Late) → line ≤ later →
    Held line s all order → Held later s all order
held_later line later s all order high h = record {
  ordered = h.ordered;
  each = h.each;
  waits = h.waits;
  words = h.words;
  known = h.known;
  lines =
      All-weaker (λ x. x.line ≤ line) (λ x. x.line ≤ later) (λ x low. omega (arith, low, high)) all
      h.lines;
}

nothing_held : (line : ℕ) → Held line no_sight [] []
nothing_held line = record {
  ordered = tt;
  each = IsPermutation-refl [];
  waits = All-nil (λ x. AllPass (may_follow x) []);
  words = λ p b is. absurd (none-some b is);
  known = All-nil (λ x. is_some (word_of no_sight x.exchange.place.group) ≡ true);
  lines = All-nil (λ x. x.line ≤ line);
}

-- ---- an exchange

or_first : (a b : Bool) → a ≡ true → (a || b) ≡ true
or_first true b is = refl
or_first false b is = absurd (true≢false (sym is))

or_last : (a b : Bool) → b ≡ true → (a || b) ≡ true
or_last true b is = refl
or_last false b is = is

module _ {X : Type 0} (P : X → Type 0) where
  all_left : (xs ys : List X) → All P (xs ++ ys) → All P xs
  all_left [] ys all = All-nil P
  all_left (x ∷ xs) ys all =
      All-cons P x xs (All-head P x (xs ++ ys) all) (all_left xs ys (All-tail P x (xs ++ ys) all))

  all_right : (xs ys : List X) → All P (xs ++ ys) → All P ys
  all_right [] ys all = all
  all_right (x ∷ xs) ys all = all_right xs ys (All-tail P x (xs ++ ys) all)

module _ (line now : ℕ) (s : Sight) (cpu : CpuId) (e : Exchange) (all order : List Late)
    (later : line ≤ now) (h : Held line s all order) where
  abbrev a : Late
  a = dated s now cpu e

  abbrev g : ℕ
  g = e.place.group

  older : AllPass (may_follow a) order
  older =
      All-weaker (λ b. b.line ≤ line) (λ b. may_follow a b ≡ true)
      (λ b low. or_last (not (is_on b.exchange.place.group a)) (may_precede b a)
      (or_first (nat_le b.line now) _ (le-leb b.line now (omega (arith, low, later)))))
      order (all_left (λ b. b.line ≤ line) order s.late
      (All-permutation (λ b. b.line ≤ line) all (order ++ s.late) h.each h.lines))

  each : IsPermutation (a ∷ all) (a ∷ (order ++ s.late))
  each = IsPermutation-cons a all (order ++ s.late) h.each

  -- .. taken on an unknown word: none is late there
  none_late : word_of s g ≡ None → All (λ b. may_follow b a ≡ true) s.late
  none_late none =
      All-weaker (λ b. is_some (word_of s b.exchange.place.group) ≡ true)
      (λ b. may_follow b a ≡ true)
      (λ b some. elim (cases_Bool (is_on g b)) [
        | inl here ↦ absurd (true≢false (sym some
            ∙ ap (λ p. is_some (word_of s p)) (eqb-true b.exchange.place.group g here)
            ∙ ap is_some none))
        | inr other ↦ or_first (not (is_on g b)) (may_precede a b) (ap not other)
      ])
      s.late (all_right (λ b. is_some (word_of s b.exchange.place.group) ≡ true) order s.late
      (All-permutation (λ b. is_some (word_of s b.exchange.place.group) ≡ true) all
      (order ++ s.late) h.each h.known))

  no_last : word_of s g ≡ None → (o : Option Late) → find (is_on g) order ≡ o →
      follows_last o a ≡ true
  no_last none None is = refl
  no_last none (Some b) is = absurd (none-some _ (sym none ∙ h.words g b is))

  takes_none : word_of s g ≡ None →
      Caught (a ∷ all) order s.cpus cpu g (taken None s.cpus cpu g s.late a)
  takes_none none = (
    a ∷ order,
    pushed (a ∷ all) order g a s.late order refl
        (no_last none (find (is_on g) order) refl) older (none_late none) h.waits h.ordered each
        (λ p differ. refl),
  )

  last_word : (word : Word) → word_of s g ≡ Some word → (b : Late) →
      find (is_on g) order ≡ Some b → word ≡ word_after b.exchange
  last_word word some b is = same_Some word (word_after b.exchange) (sym some ∙ h.words g b is)

  sets_aside : (word : Word) → word_of s g ≡ Some word →
      (now_order : List Late)
      × Catch (a ∷ all) order g (record { word = word; late = s.late ++ a ∷ [] }) now_order
  sets_aside word some = (
    order,
    record {
      ordered = h.ordered;
      each =
          IsPermutation-trans (a ∷ all) (a ∷ (order ++ s.late)) (order ++ (s.late ++ a ∷ [])) each
          (subst (λ ls. IsPermutation (a ∷ (order ++ s.late)) ls)
          (append_assoc order s.late (a ∷ []))
          (IsPermutation-sym ((order ++ s.late) ++ a ∷ []) (a ∷ (order ++ s.late))
          (IsPermutation-to_front (order ++ s.late) a)));
      waits = All-push (λ b. AllPass (may_follow b) order) s.late a h.waits older;
      last = last_word word some;
      others = λ p differ. refl;
    },
  )

  takes_next : (word : Word) → word_of s g ≡ Some word →
      is_next s.cpus cpu g word s.late a ≡ true →
      Caught (a ∷ all) order s.cpus cpu g
      (caught_up s.cpus cpu (length s.late) g (word_after e) s.late)
  takes_next word some next =
      let free = first_part (is_on g a && follows word e && comes_first g s.late a)
      (not (is_held s.cpus cpu g word a)) next in
      let follow = last_part (is_on g a) (follows word e)
      (first_part (is_on g a && follows word e) (comes_first g s.late a) free) in
      let first = last_part (is_on g a && follows word e) (comes_first g s.late a) free in
      caught (a ∷ all) order s.cpus cpu g (length s.late) (word_after e) s.late (a ∷ order)
      (pushed (a ∷ all) order g a s.late order refl
      (next_last (a ∷ all) order g word a order refl (last_word word some) follow) older
      (next_first (a ∷ all) order g a s.late refl first) h.waits h.ordered each
      (λ p differ. refl))

  takes_late : (word : Word) → word_of s g ≡ Some word →
      Caught (a ∷ all) order s.cpus cpu g
      (caught_up s.cpus cpu (length (s.late ++ a ∷ [])) g word (s.late ++ a ∷ []))
  unfolding sets_aside
  takes_late word some =
      caught (a ∷ all) order s.cpus cpu g (length (s.late ++ a ∷ [])) word (s.late ++ a ∷ []) order
      (sets_aside word some).1

  takes_on : (word : Word) → word_of s g ≡ Some word → (b : Bool) →
      is_next s.cpus cpu g word s.late a ≡ b →
      Caught (a ∷ all) order s.cpus cpu g (taken_on word s.cpus cpu g s.late a)
  takes_on word some true next =
      subst (λ w. Caught (a ∷ all) order s.cpus cpu g w)
      (sym (cond-true (is_next s.cpus cpu g word s.late a)
      (caught_up s.cpus cpu (length s.late) g (word_after e) s.late)
      (caught_up s.cpus cpu (length (s.late ++ a ∷ [])) g word (s.late ++ a ∷ [])) next))
      (takes_next word some next)
  takes_on word some false next =
      subst (λ w. Caught (a ∷ all) order s.cpus cpu g w)
      (sym (cond-false (is_next s.cpus cpu g word s.late a)
      (caught_up s.cpus cpu (length s.late) g (word_after e) s.late)
      (caught_up s.cpus cpu (length (s.late ++ a ∷ [])) g word (s.late ++ a ∷ [])) next))
      (takes_late word some)

  takes : (word : Option Word) → word_of s g ≡ word →
      Caught (a ∷ all) order s.cpus cpu g (taken word s.cpus cpu g s.late a)
  takes None none = takes_none none
  takes (Some word) some = takes_on word some (is_next s.cpus cpu g word s.late a) refl

  -- ---- what is seen after it

  abbrev w : Waiting
  w = waiting_after s now cpu e

  abbrev after : Sight
  after = with_word (with_late s w.late) e w.word

  own_after : word_of after g ≡ Some w.word
  unfolding with_word
  own_after =
      subst (λ p. word_of after p ≡ Some w.word) (pointer_at s g)
      (own_word (with_late s w.late)
      (group_after (group_at s g) e w.word (list_any (is_on g) w.late)))

  other_after : (p : ℕ) → (g == p) ≡ false → word_of after p ≡ word_of s p
  unfolding with_word
  other_after p differ =
      other_word (with_late s w.late)
      (group_after (group_at s g) e w.word (list_any (is_on g) w.late)) p
      (ap (λ n. n == p) (pointer_at s g) ∙ differ)

  late_after : after.late ≡ w.late
  unfolding with_word
  late_after = refl

  some_after : (p : ℕ) → is_some (word_of s p) ≡ true → is_some (word_of after p) ≡ true
  some_after p some = elim (cases_Bool (g == p)) [
    | inl same ↦
        subst (λ q. is_some (word_of after q) ≡ true) (eqb-true g p same) (ap is_some own_after)
    | inr differ ↦ ap is_some (other_after p differ) ∙ some
  ]

  held_after : (now_order : List Late) → Catch (a ∷ all) order g w now_order →
      Held now after (a ∷ all) now_order
  held_after now_order c = record {
    ordered = c.ordered;
    each = subst (λ ls. IsPermutation (a ∷ all) (now_order ++ ls)) (sym late_after) c.each;
    waits = subst (λ ls. All (λ x. AllPass (may_follow x) now_order) ls) (sym late_after) c.waits;
    words = λ p b is. elim (cases_Bool (g == p)) [
      | inl same ↦
          let at = eqb-true g p same in
          ap (word_of after) (sym at) ∙ own_after
          ∙ ap (λ (x : Word). Some x) (c.last b (ap (λ q. find (is_on q) now_order) at ∙ is))
      | inr differ ↦ other_after p differ ∙ h.words p b (sym (c.others p differ) ∙ is)
    ];
    known =
        All-cons (λ x. is_some (word_of after x.exchange.place.group) ≡ true) a all
        (ap is_some own_after)
        (All-weaker (λ x. is_some (word_of s x.exchange.place.group) ≡ true)
        (λ x. is_some (word_of after x.exchange.place.group) ≡ true)
        (λ x some. some_after x.exchange.place.group some) all h.known);
    lines =
        All-cons (λ x. x.line ≤ now) a all (omega arith)
        (All-weaker (λ x. x.line ≤ line) (λ x. x.line ≤ now)
        (λ x low. omega (arith, low, later)) all h.lines);
  }

-- ---- what keeps the words and the late exchanges

either : (b : Bool) (s t u : Sight) → Alike s t → Alike s u → Alike s (if b then t else u)
either true s t u yes_alike no_alike = yes_alike
either false s t u yes_alike no_alike = no_alike

timed_alike : (s : Sight) (at : Option ℕ) → Alike s (timed s at)
unfolding timed
timed_alike s None = alike_same s
timed_alike s (Some at) = record { words = λ p. refl; late = refl }

child_alike : (s : Sight) (from : Option ℕ) (e : Exchange) → Alike s (learned_child s from e)
unfolding learned_child
child_alike s None e = alike_same s
child_alike s (Some from) e =
    either (from == 0) s s _ (alike_same s)
    (alike_group s from (child_after (group_at s from) e) refl refl)

walk_alike : (s : Sight) (line : ℕ) (cpu : CpuId) (before : Option Word) (e : Exchange) →
    Alike s (learned_walk s line cpu before e)
unfolding learned_walk
walk_alike s line cpu before e = alike_cpu s (cpu_after (cpu_at s cpu) line before e)

moved_alike : (s : Sight) (line : ℕ) (cpu : CpuId) → Alike s (moved_on s line cpu)
unfolding moved_on
moved_alike s line cpu = alike_cpu s _

place_alike : (s : Sight) (place : Place) → Alike s (learned_place s place)
unfolding learned_place
place_alike s place = alike_group s place.group _ refl refl

link_alike : (s : Sight) (child : ℕ) (j : Joining) → Alike s (with_link s child j)
unfolding with_link
link_alike s child j = alike_group s child _ refl refl

hung_alike : (s : Sight) (line : ℕ) (cpu : CpuId) (child : ℕ) (j : Joining) →
    Alike s (with_hung s line cpu child j)
unfolding with_hung
hung_alike s line cpu child j = alike_cpu s _

leaf_alike : (s : Sight) (cpu : CpuId) (j : Joining) → Alike s (with_leaf s cpu j)
unfolding with_leaf
leaf_alike s cpu j = alike_cpu s _

named_alike : (s : Sight) (t : CpuEvent) → Alike s (with_named s t)
unfolding with_named
named_alike s t = alike_cpu s _

writer_alike : (s : Sight) (line : ℕ) (cpu : CpuId) (t : CpuEvent) →
    Alike s (with_writer s line cpu t)
unfolding with_writer
writer_alike s line cpu t = alike_cpu s _

look_alike : (s : Sight) (line : ℕ) (cpu : CpuId) (look : Look) →
    Alike s (with_look s line cpu look)
unfolding with_look
look_alike s line cpu look = alike_cpu s _

leaf_event_alike : (s : Sight) (run : Run) (cpu : CpuId) (stored : ℕ) →
    Alike s (with_leaf_event s run cpu stored)
unfolding with_leaf_event
leaf_event_alike s runs.Unknown cpu stored = alike_same s
leaf_event_alike s runs.Own cpu stored = alike_cpu s _
leaf_event_alike s (runs.Of other) cpu stored = alike_cpu s _

group_event_alike : (s : Sight) (group : ℕ) (event : Option ℕ) →
    Alike s (with_group_event s group event)
unfolding with_group_event
group_event_alike s group event = alike_group s group _ refl refl

event_alike : (s : Sight) (run : Run) (cpu : CpuId) (u : Update) →
    Alike s (with_event s run cpu u)
event_alike s run cpu u =
    either (u.child == 0) s _ _ (leaf_event_alike s run cpu u.expiries.stored)
    (group_event_alike s u.child (Some u.expiries.stored))

hidden_alike : (s : Sight) (run : Run) (group : ℕ) → Alike s (with_hidden s run group)
hidden_alike s runs.Own group = alike_same s
hidden_alike s runs.Unknown group = group_event_alike s group None
hidden_alike s (runs.Of cpu) group = group_event_alike s group None

first_alike : (s : Sight) (line : ℕ) (cpu : CpuId) (found : Option ℕ) (u : Update) →
    Alike s (with_first s line cpu found u)
unfolding with_first
first_alike s line cpu found u = alike_cpu s _

update_alike : (s : Sight) (line : ℕ) (cpu : CpuId) (u : Update) →
    Alike s (learned_update s line cpu u)
unfolding learned_update
update_alike s line cpu u =
    let run = (cpu_at s cpu).run in
    let t = with_event s run cpu u in
    let hidden = with_hidden t run u.group in
    alike_then s hidden _
    (alike_then s t hidden (event_alike s run cpu u) (hidden_alike t run u.group))
    (first_alike hidden line cpu (first_seen s cpu u) u)

-- ---- one line

-- what holds after a line
abbrev Holds : ℕ → Sight → List Late → Type 0
Holds line s all = (order : List Late) × Held line s all order

holds_alike : (line : ℕ) (s t : Sight) (all : List Late) → Alike s t → Holds line s all →
    Holds line t all
holds_alike line s t all alike h = (h.0, held_alike line s t all h.0 alike h.1)

exchange_holds : (line now : ℕ) (s : Sight) (cpu : CpuId) (e : Exchange) (all : List Late) →
    line ≤ now → Holds line s all →
    Holds now (learned_exchange s now cpu e) (dated s now cpu e ∷ all)
exchange_holds line now s cpu e all later h =
    let took = takes line now s cpu e all h.0 later h.1 (word_of s e.place.group) refl in
    let t = after line now s cpu e all h.0 later h.1 in
    let walked = learned_walk t now cpu (word_seen s now cpu e) e in
    holds_alike now t (learned_exchange s now cpu e) (dated s now cpu e ∷ all)
    (alike_then t walked _ (walk_alike t now cpu (word_seen s now cpu e) e)
    (child_alike walked (source_seen s cpu e) e))
    (took.0, held_after line now s cpu e all h.0 later h.1 took.0 took.1)

told_holds : (line now : ℕ) (s : Sight) (cpu : CpuId) (at : Option ℕ) (x : Happening)
    (all : List Late) → line ≤ now → Holds line (timed s at) all → Holds now (timed s at) all →
    Holds now (learned (timed s at) now cpu x) (exchanges_by all s now (lines.Told cpu at x))
unfolding learned
told_holds line now s cpu at (Exchanged e) all later h k =
    exchange_holds line now (timed s at) cpu e all later h
told_holds line now s cpu at (GroupMade place) all later h k =
    let t = timed s at in
    holds_alike now t _ all
    (alike_then t (learned_place t place) _ (place_alike t place)
    (moved_alike (learned_place t place) now cpu)) k
told_holds line now s cpu at (GroupJoined child j) all later h k =
    let t = timed s at in
    let placed = learned_place t j.parent in
    holds_alike now t _ all
    (alike_then t (with_link placed child j) _
    (alike_then t placed (with_link placed child j) (place_alike t j.parent)
    (link_alike placed child j))
    (hung_alike (with_link placed child j) now cpu child j)) k
told_holds line now s cpu at (CpuJoined joined j) all later h k =
    let t = timed s at in
    let placed = learned_place t j.parent in
    holds_alike now t _ all
    (alike_then t (with_leaf placed joined j) _
    (alike_then t placed (with_leaf placed joined j) (place_alike t j.parent)
    (leaf_alike placed joined j))
    (moved_alike (with_leaf placed joined j) now cpu)) k
told_holds line now s cpu at (CpuTold t) all later h k =
    let timed_s = timed s at in
    holds_alike now timed_s _ all
    (alike_then timed_s (with_named timed_s t) _ (named_alike timed_s t)
    (writer_alike (with_named timed_s t) now cpu t)) k
told_holds line now s cpu at (Updated u) all later h k =
    holds_alike now (timed s at) _ all (update_alike (timed s at) now cpu u) k
told_holds line now s cpu at (Handling group) all later h k =
    holds_alike now (timed s at) _ all
    (look_alike (timed s at) now cpu (look_seen (timed s at) cpu group)) k

high_by : (b : Bool) (n : ℕ) → n ≤ (if b then n + 1 else n)
high_by true n = omega arith
high_by false n = omega arith

counted_high : (n : ℕ) → n ≤ counted n
counted_high n = high_by (nat_lt n MOST) n

line_holds : (line : ℕ) (s : Sight) (all : List Late) (said : Line) → Holds line s all →
    Holds (counted line) (seen_after s (counted line) said)
    (exchanges_by all s (counted line) said)
unfolding seen_after
line_holds line s all lines.Remark h =
    (h.0, held_later line (counted line) s all h.0 (counted_high line) h.1)
line_holds line s all lines.Loss h = ([], nothing_held (counted line))
line_holds line s all (lines.Foreign cpu odd) h =
    holds_alike (counted line) s (noted s (counted line) cpu) all (alike_cpu s _)
    (h.0, held_later line (counted line) s all h.0 (counted_high line) h.1)
line_holds line s all (lines.OfTimer cpu at e) h =
    holds_alike (counted line) s (noted s (counted line) cpu) all (alike_cpu s _)
    (h.0, held_later line (counted line) s all h.0 (counted_high line) h.1)
line_holds line s all (lines.Told cpu at x) h =
    let timed_held = held_alike line s (timed s at) all h.0 (timed_alike s at) h.1 in
    told_holds line (counted line) s cpu at x all (counted_high line) (h.0, timed_held)
    (h.0, held_later line (counted line) (timed s at) all h.0 (counted_high line) timed_held)

-- ---- the lines of a trace

said_holds : (k : Course) (all : List Late) (r : Result Line LineFault) →
    Holds k.tally.lines k.seen all →
    Holds (said_after k r).tally.lines (said_after k r).seen (exchanges_said all k r)
unfolding tally_after
said_holds k all (Err fault) h = h
said_holds k all (Ok said) h = line_holds k.tally.lines k.seen all said h

text_holds : (k : Course) (all : List Late) (text : List ℕ) → Holds k.tally.lines k.seen all →
    Holds (text_after k text).tally.lines (text_after k text).seen (exchanges_after all k text)
unfolding text_after
text_holds k all text h = said_holds k all (line_of text) h

stands : (line : ℕ) (s : Sight) (all : List Late) → Holds line s all → HasOrder all s
stands line s all h = (h.0, h.1.ordered, h.1.each)

orders_hold : (all : List Late) (k : Course) (texts : List (List ℕ)) →
    Holds k.tally.lines k.seen all → OrdersHold all k texts
orders_hold all k [] h = stands k.tally.lines k.seen all h
orders_hold all k (text ∷ texts) h = (
  stands k.tally.lines k.seen all h,
  orders_hold (exchanges_after all k text) (text_after k text) texts (text_holds k all text h),
)

pub orders_law : (lost : ℕ) (texts : List (List ℕ)) → OrdersHold [] (start_behind lost) texts
orders_law lost texts = orders_hold [] (start_behind lost) texts ([], nothing_held lost)
