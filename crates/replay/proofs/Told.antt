-- Tokens that are told one after the other.
use Rattle.std.proofs.Common.{◌≡◌, ℕ, List, [], ◌∷◌, ◌++◌, Some, None, sym, refl, ap, ◌∙◌, arith}
use Rattle.format.specs.Bytes.{Bytes}
use Rattle.format.specs.Tokens as format
use Rattle.lexer.specs.declared.token.Found.{Found}
use Rattle.lexer.specs.declared.token.Token.{Token}
use Rattle.lexer.specs.declared.token.Token.TheVariants.{Unsigned, Signed, Real, Name, Text, Hex, Word, OpenArray, CloseArray, OpenDict, CloseDict, End}
use Rattle.lexer.specs.Views.{kind_of, found_token}
use Rattle.replay.specs.Readings.{next_token, TellsToken, TokensBetween}
use Rattle.replay.specs.Sorts.{sort_of}
use Rattle.replay.specs.declared.answer.Value.{Value}
use Rattle.replay.specs.declared.answer.Value.TheVariants as values
use Rattle.replay.specs.declared.sort.Sort.{Sort}

-- one token more at the end
pub one_more : (src : Bytes) (p q : ℕ) (vs : List Value) (v : Value) → TokensBetween src p vs q → TellsToken (next_token src q) v → TokensBetween src p (vs ++ (v ∷ [])) (next_token src q).to
one_more src p q [] v e t = rw (sym e) (t, refl)
one_more src p q (w ∷ vs) v told t = (told.0, one_more src (next_token src p).to q vs v told.1 t)

no_sort : {A : Type 0} (s : Sort) → Some s ≡ None → A
no_sort s e = let z : ◌≡◌ {A = ℕ} 0 1 = cc in absurd (omega arith)

-- only the end has no sort
pub sortless : (t : Token) → sort_of (kind_of t) ≡ None → kind_of t ≡ format.ended
sortless (Unsigned n) e = no_sort _ e
sortless (Signed z) e = no_sort _ e
sortless (Real s) e = no_sort _ e
sortless (Name s) e = no_sort _ e
sortless (Text s) e = no_sort _ e
sortless (Hex s) e = no_sort _ e
sortless (Word s) e = no_sort _ e
sortless OpenArray e = no_sort _ e
sortless CloseArray e = no_sort _ e
sortless OpenDict e = no_sort _ e
sortless CloseDict e = no_sort _ e
sortless End e = refl

moved : (src : Bytes) (q r : ℕ) (vs : List Value) → q ≡ r → TokensBetween src 0 vs q → TokensBetween src 0 vs r
moved src q r vs e h = rw (sym e) h

-- what was found in the same bytes is told behind what is told
pub found_told : (src s : Bytes) (p q : ℕ) (vs ws : List Value) (f : Found) (k : Sort) → s ≡ src → TokensBetween src 0 vs p → next_token s p ≡ found_token s f → sort_of (kind_of f.token) ≡ Some k → ws ≡ vs ++ (values.Token k f.from f.to ∷ []) → q ≡ f.to → TokensBetween src 0 ws q
found_told src s p q vs ws f k same told found sorted items on =
    let is : next_token src p ≡ found_token src f = rw (sym same) found in
    let tells : TellsToken (next_token src p) (values.Token k f.from f.to) =
    record { sort = k; sort_is = ap (λ t. sort_of t.kind) is ∙ sorted; value_is = rw is refl } in
    rw on (rw items (moved src _ _ _ (ap (λ t. t.to) is) (one_more src 0 p vs _ told tells)))
