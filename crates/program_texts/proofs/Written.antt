-- for crates above: how a text was written, and its status by that
use Rattle.std.proofs.Common.{◌≡◌, ℕ, List, [], sym, ◌∙◌, inl, inr, Option, Some, None, subst}
use Rattle.std.proofs.Common.{append-nil}
use Rattle.std.specs.Prelude.{◌⊎◌, Vec, Result, Ok, Err, IfOk, MatchResult}
use Rattle.std.specs.declared.alloc.Global.{Global}
use Rattle.std.specs.Io.KnownBytes.{Appends}
use Rattle.tm_io.specs.Seen.{SinkSeen}
use Rattle.program_texts.specs.declared.statuses.TheConstants.{DONE, NO_MEMORY, WRITE_FAULT}
use Rattle.program_texts.specs.Ends.{EndsUnwritten, EndsWith, WritesAll, WritesFront, whole, part}
use Rattle.program_texts.specs.Ends.{wanting, unwritten, SinkBreaks}
use Rattle.program_texts.specs.Statuses.{IsEither}

-- nothing was put
pub appends_none : (held : Option (List ℕ)) → Appends held held []
appends_none None = tt
appends_none (Some bytes) = sym (append-nil bytes)

pub no_change : (k m : SinkSeen) → m ≡ k → Appends k.held m.held []
no_change k m same =
    let Kept : SinkSeen → Type 0 = λ x. Appends k.held x.held [] in
    subst Kept (sym same) (appends_none k.held)

module _ (k m : SinkSeen) (status : ℕ) where
  -- a text that was made before it was written
  pub made_ends : {E : Type 0} (text : Result (Vec ℕ Global) E) (wanted : List ℕ) (own : ℕ)
      → IfOk text (λ made. made.items ≡ wanted)
      → MatchResult text (λ made. EndsWith made.items own own k m status)
      (λ _. EndsUnwritten k m status)
      → EndsWith wanted own own k m status
  made_ends (Ok made) wanted own is ends =
      let Ends : List ℕ → Type 0 = λ xs. EndsWith xs own own k m status in
      subst Ends is ends
  made_ends (Err e) wanted own is ends = unwritten ends

  -- three ways to a status: all was written, the sink broke, or memory was wanting
  pub by_end : {A : Type 0} (text : List ℕ) (all broken x : ℕ)
      → EndsWith text all broken k m status → status ≡ x
      → (all ≡ x → WritesAll text k m → A)
      → (broken ≡ x → WritesFront text k m → A)
      → (NO_MEMORY ≡ x → A) → A
  by_end text all broken x (whole w e) at f g h = f (sym e ∙ at) w
  by_end text all broken x (part w e) at f g h = g (sym e ∙ at) w
  by_end text all broken x (wanting count front sound e) at f g h = h (sym e ∙ at)
  by_end text all broken x (unwritten e) at f g h = h (sym e.1 ∙ at)

module _ (text : List ℕ) (k m : SinkSeen) (status : ℕ) where
  -- a text with one status of its own
  pub either : (own : ℕ) → EndsWith text own own k m status → IsEither status own NO_MEMORY
  either own (whole w e) = inl e
  either own (part w e) = inl e
  either own (wanting count front sound e) = inr e
  either own (unwritten e) = inr e.1

  -- an output
  pub out_ends : EndsWith text DONE WRITE_FAULT k m status
      → (status ≡ WRITE_FAULT) ⊎ IsEither status DONE NO_MEMORY
  out_ends (whole w e) = inr (inl e)
  out_ends (part w e) = inl e
  out_ends (wanting count front sound e) = inr (inr e)
  out_ends (unwritten e) = inr (inr e.1)

  pub out_whole : EndsWith text DONE WRITE_FAULT k m status → (SinkBreaks k m → ⊥)
      → IsEither status DONE NO_MEMORY
  out_whole (whole w e) sound = inl e
  out_whole (part w e) sound = absurd (sound w.broke)
  out_whole (wanting count front so e) sound = inr e
  out_whole (unwritten e) sound = inr e.1
