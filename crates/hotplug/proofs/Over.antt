-- timers that moved from one CPU to another, class by class
use Rattle.std.proofs.Common.{◌≡◌, ℕ, ◌++◌, List, [], ◌∷◌, Some, refl, sym, ap, ◌∙◌}
use Rattle.std.proofs.Common.{subst, arith}
use Rattle.std.specs.Prelude.{◌==◌, Err, Ok, OnErr, Result, map}
use Rattle.std.proofs.lemmas.Bool.{cond-true, eq-eqb}
use Rattle.std.proofs.lemmas.List.{append-nil, append_assoc, map-append, nil_from_length}
use Rattle.std.proofs.lemmas.Option.{none-some, same_Some}
use Rattle.tm_base.specs.declared.names.Class.{Class}
use Rattle.tm_base.specs.declared.names.Class.TheVariants.{Pinned, Global, Deferrable}
use Rattle.tm_base.specs.declared.names.CpuId.{CpuId}
use Rattle.wheel_core.specs.declared.item.Item.{Item}
use Rattle.wheel_core.specs.PlainBase.{removed, without}
use Rattle.cpu_bases.specs.declared.entry.Act.TheVariants as acts
use Rattle.cpu_bases.specs.declared.entry.Entry.{Entry}
use Rattle.cpu_bases.specs.ByClass.{ByClass, of_class, with_class}
use Rattle.cpu_bases.specs.CpuBases.{CpuBases, after_move_out, base_of, changed, entry_of}
use Rattle.cpu_bases.specs.CpuBases.{moved_in, moved_out, oldest_in}
use Rattle.cpu_bases.proofs.Counts.{count_in}
use Rattle.core_world.specs.World.{World}
use Rattle.hotplug.specs.Afterwards.{Asked, SomeMoved, asked, base_items_of, timers_of}

-- nothing of any class
abbrev pub no_items : ByClass (List Item)
no_items = record { pinned = []; global = []; deferrable = [] }

-- one item of a class, and nothing of the others
abbrev pub one_item : Class → Item → ByClass (List Item)
one_item class item = with_class class (item ∷ []) no_items

-- the items of the one behind those of the other
abbrev both : (a b : ByClass (List Item)) → ByClass (List Item)
both a b = record {
  pinned = a.pinned ++ b.pinned;
  global = a.global ++ b.global;
  deferrable = a.deferrable ++ b.deferrable;
}

at_both : (k : Class) (a b : ByClass (List Item)) →
    of_class k (both a b) ≡ of_class k a ++ of_class k b
at_both Pinned a b = refl
at_both Global a b = refl
at_both Deferrable a b = refl

-- WHAT A MOVE TAKES
oldest_rest : (items : List Item) (item : Item) → oldest_in items ≡ Some item →
    items ≡ item ∷ without item.id items
oldest_rest [] item is = absurd (none-some item is)
oldest_rest (x ∷ xs) item is =
    subst (λ (i : Item). x ∷ xs ≡ i ∷ without i.id (x ∷ xs)) (same_Some x item is)
    (ap (λ ys. x ∷ ys)
    (sym (cond-true (x.id == x.id) xs (x ∷ without x.id xs) (eq-eqb x.id x.id refl))))

taken_from : (class k : Class) (b : CpuBases) (item : Item) (e : Entry) →
    oldest_in (base_of class b).items ≡ Some item →
    (base_of k b).items
    ≡ of_class k (one_item class item)
    ++ (base_of k (changed class (removed item.id (base_of class b)) e b)).items
taken_from Pinned Pinned b item e is = oldest_rest (base_of Pinned b).items item is
taken_from Pinned Global b item e is = refl
taken_from Pinned Deferrable b item e is = refl
taken_from Global Pinned b item e is = refl
taken_from Global Global b item e is = oldest_rest (base_of Global b).items item is
taken_from Global Deferrable b item e is = refl
taken_from Deferrable Pinned b item e is = refl
taken_from Deferrable Global b item e is = refl
taken_from Deferrable Deferrable b item e is = oldest_rest (base_of Deferrable b).items item is

pub gives_one : (now : ℕ) (class k : Class) (by : CpuId) (b : CpuBases) (item : Item) →
    oldest_in (base_of class b).items ≡ Some item →
    (base_of k b).items
    ≡ of_class k (one_item class item) ++ (base_of k (moved_out now class by b)).items
gives_one now class k by b item is =
    taken_from class k b item (entry_of acts.MovedOut 0 now class item by) is
    ∙ ap (λ o. of_class k (one_item class item) ++ (base_of k (after_move_out o now class by b)).items)
    (sym is)

-- WHAT IT BRINGS
abbrev asked_in : (k : Class) → CpuBases → List Asked
asked_in k b = map asked (base_of k b).items

pub takes_one : (now : ℕ) (class k : Class) (by : CpuId) (b : CpuBases) (item : Item) →
    asked_in k (moved_in now class item.id item.expires item.job item.arg by b)
    ≡ asked_in k b ++ map asked (of_class k (one_item class item))
takes_one now Pinned Pinned by b item = map-append asked (base_of Pinned b).items (_ ∷ [])
takes_one now Pinned Global by b item = sym (append-nil (asked_in Global b))
takes_one now Pinned Deferrable by b item = sym (append-nil (asked_in Deferrable b))
takes_one now Global Pinned by b item = sym (append-nil (asked_in Pinned b))
takes_one now Global Global by b item = map-append asked (base_of Global b).items (_ ∷ [])
takes_one now Global Deferrable by b item = sym (append-nil (asked_in Deferrable b))
takes_one now Deferrable Pinned by b item = sym (append-nil (asked_in Pinned b))
takes_one now Deferrable Global by b item = sym (append-nil (asked_in Global b))
takes_one now Deferrable Deferrable by b item =
    map-append asked (base_of Deferrable b).items (_ ∷ [])

-- ONE AFTER THE OTHER
left_alone : (k : Class) (items : List Item) → items ≡ of_class k no_items ++ items
left_alone Pinned items = refl
left_alone Global items = refl
left_alone Deferrable items = refl

come_alone : (k : Class) (told : List Asked) → told ≡ told ++ map asked (of_class k no_items)
come_alone Pinned told = sym (append-nil told)
come_alone Global told = sym (append-nil told)
come_alone Deferrable told = sym (append-nil told)

pub over_none : (w : World) (from to : ℕ) → SomeMoved w from to w
over_none w from to = (
  no_items,
  record {
    tree = refl;
    clock = refl;
    online = λ d. refl;
    left = λ k. left_alone k (base_items_of w from k);
    come = λ k. come_alone k (timers_of w to k);
    others = λ d ne other. refl;
  },
)

pub over_then : (u v w : World) (from to : ℕ) → SomeMoved u from to v → SomeMoved v from to w →
    SomeMoved u from to w
over_then u v w from to (a, x) (b, y) = (
  both a b,
  record {
    tree = y.tree ∙ x.tree;
    clock = y.clock ∙ x.clock;
    online = λ d. y.online d ∙ x.online d;
    left = λ k.
        x.left k
        ∙ (ap (λ xs. of_class k a ++ xs) (y.left k)
        ∙ (sym (append_assoc (of_class k a) (of_class k b) (base_items_of w from k))
        ∙ ap (λ xs. xs ++ base_items_of w from k) (sym (at_both k a b))));
    come = λ k.
        y.come k
        ∙ (ap (λ xs. xs ++ map asked (of_class k b)) (x.come k)
        ∙ (append_assoc (timers_of u to k) (map asked (of_class k a)) (map asked (of_class k b))
        ∙ ap (λ xs. timers_of u to k ++ xs)
        (sym (map-append asked (of_class k a) (of_class k b))
        ∙ ap (map asked) (sym (at_both k a b)))));
    others = λ d ne other. y.others d ne other ∙ x.others d ne other;
  },
)

-- NONE LEFT
pub none_of : (k : Class) (b : CpuBases) → count_in b ≡ 0 → (base_of k b).items ≡ []
none_of Pinned b none = nil_from_length (base_of Pinned b).items (omega (arith, none))
none_of Global b none = nil_from_length (base_of Global b).items (omega (arith, none))
none_of Deferrable b none = nil_from_length (base_of Deferrable b).items (omega (arith, none))

-- what holds, holds at a refusal
pub at_err : {T E P : Type 0} (r : Result T E) → P → OnErr r P
at_err (Ok x) p = tt
at_err (Err e) p = p
