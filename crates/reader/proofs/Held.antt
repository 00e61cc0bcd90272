-- A reader as the walks see it: its type at the lifetime of its block, and what it owns. A reader is Copy, so that what
-- it owns is had twice.
use mathlib.Core.Path.{◌≡◌}
use Prim.Native.Nat.{◌<◌, ◌^◌}
use mathlib.Core.List.{List, [], ◌∷◌}
use lib.Dec.{T as Holds}
use lib.ListN.{length}
use seplogic.Ra.Ura.{Ura}
use mir.Syntax.{named, erased}
use mir.Val.{Val, WT, has_ty}
use base.Logic.{ent, sep}
use base.Fml.{Lft, Fml}
use types.Logic.{Logic, sem}
use types.Kit.{‵, given, ◌⊛◌, ◌$◌, ◌∵◌, !, qed, move, drop, use1, split, learn, frame, done}
use denote.RattleType.{RattleType}
use denote.Laws.{Is}
use denote.Memory.{pointee}
use denote.Builtin.{u8}
use denote.Ref.{NamedLft}
use denote.Signature.{Slot, plain, named_lft}
use denote.Slice.{slice_val, ShrSlice, shr_slice_Lawful}
use denote.Struct.Declared.{Declared}
use denote.Struct.Laws as LL
use denote.Struct.Rest.{all_own, field_own, rest, own_open, own_out}
use denote.Struct.Values.{Values}
use Rattle.reader.specs.declared.Reader.{Reader}
use Rattle.reader.specs.contracts.Reader as T
use Rattle.reader.proofs.Reader.TheLaws as T'

-- 'a, the second lifetime of a method
abbrev pub α : Lft → NamedLft
α κ = record { mir = named 1; lft = κ }

-- `Reader<'a>`
abbrev pub B : Lft → RattleType
B κ = T.the_row (α κ)

-- the same, as the referent's place in a method's signature
abbrev pub behind : Slot 2
behind = plain (λ κs. T.the_row (named_lft 2 1 tt κs))

-- the struct's type and laws
abbrev pub D : Lft → Declared
D κ = T.the_type (α κ)

abbrev pub L : (κ : Lft) → LL.Laws (D κ)
L κ = T'.the_laws (α κ)

module _ (κ : Lft) (h : Reader) where
  -- the block's machine value, and the fields' values
  abbrev pub block_val : Val
  block_val = slice_val h.block.ref_ptr (length h.block.now)

  abbrev pub vd : Values (D κ).parts
  vd = (h.block, (h.at, tt))

  -- what it owns, and what its block does
  abbrev pub Own : Fml
  Own = (B κ).own_val h (T'.lowered h ∷ [])

  abbrev pub Block : Fml
  Block = (ShrSlice (named 0) κ u8).own_val h.block (block_val ∷ [])

  -- the position fits its type
  pub at_fits : {vs : List Val} → Is (B κ) h vs → h.at < 2 ^ 64
  at_fits is = (LL.owed (D κ) (L κ) h _ is).1.0.1

  module _ {M : Type 1} {𝓤 : Ura M} (𝓛 : Logic 𝓤) where
    -- the block's machine value has its type
    pub block_typed : {vs : List Val} → Is (B κ) h vs
        → Holds (has_ty (pointee (ShrSlice erased κ u8).written) block_val) × WT block_val
    block_typed is =
        ((shr_slice_Lawful 𝓛 erased κ u8).typed h.block (block_val ∷ []) (LL.owed (D κ) (L κ) h _ is).0).0

    -- what the block owns, beside what the reader owns
    pub block_too : ent 𝓤 (sem 𝓛 Own) (sep 𝓤 (sem 𝓛 Block) (sem 𝓛 Own))
    block_too =
        qed 𝓛 (‵ Own ∷ []) ∵
        use1 𝓛 (‵ Own ⊛ ‵ Own) ((LL.copy (D κ) (T'.the_copy (α κ)) 𝓛).twice h (T'.lowered h ∷ [])) $ split ! $
        use1 𝓛 (given (T'.lowered h ∷ [] ≡ T'.lowered h ∷ []) (‵ (all_own (D κ).parts (L κ) vd)))
        (own_open 𝓛 (D κ) (L κ) vd (T'.lowered h)) $ learn ! (λ _.
        use1 𝓛 (‵ (field_own (D κ).parts (L κ) 0 h.block) ⊛ ‵ (rest (D κ).parts (L κ) 0 vd))
        (own_out 𝓛 (D κ).parts (L κ) 0 vd) $ split ! $
        move ! (1 ∷ []) $ drop ! $ frame ! $ done !)
