-- The reader accepts just those objects that are spelled.
use Rattle.std.proofs.Common.{◌≡◌, ℕ, ◌<◌, List, [], ◌∷◌, length, sym, refl, ap, ◌∙◌, arith}
use Rattle.format.specs.Bytes.{Bytes, ok}
use Rattle.format.specs.Objects.{Obj, object_by, object}
use Rattle.format.specs.Strings.{turns}
use Rattle.format.specs.Tokens.{token_at}
use Rattle.locality.proofs.Tests.{clash}
use Rattle.grammar.specs.Lexing.{Lexeme, Lexes}
use Rattle.grammar.specs.Reading.{Met, token, the_end, a_flaw, met, lexeme_of, ObjectsAreSpelled}
use Rattle.grammar.specs.Trees.{Ahead, SpelledAt}
use Rattle.grammar.proofs.Complete.{spells_read}
use Rattle.grammar.proofs.Lexing.{cases_met, met_good, good_met}
use Rattle.grammar.proofs.Sequences.{head, one_lexes, lexes_join, lexes_shorter}
use Rattle.grammar.proofs.Sound.{Told, object_told}
use Rattle.grammar.proofs.Unique.{spelled_once}

-- where the reader meets no token, none stands
pub nothing_met : (p : ℕ) (xs : Bytes) → length xs < turns → (met (token_at p xs).kind ≡ token → ⊥) → (t : Lexeme) (r : ℕ) (ys : Bytes) → Lexes p xs (t ∷ []) r ys → ⊥
nothing_met p xs h f t r ys l = let k = head l h in f (ap (λ (x : Lexeme). met x.kind) k.lex ∙ good_met t.kind k.good)

end_no_token : (m : Met) → m ≡ the_end → m ≡ token → ⊥
end_no_token m a b = clash (let e : the_end ≡ token = sym a ∙ b in cc)

flaw_no_token : (m : Met) → m ≡ a_flaw → m ≡ token → ⊥
flaw_no_token m a b = clash (let e : a_flaw ≡ token = sym a ∙ b in cc)

-- some tokens stand ahead, if none
pub ahead_of : (p : ℕ) (xs : Bytes) → length xs < turns → (us : List Lexeme) × Ahead p xs us
ahead_of p xs h =
    cases_met (met (token_at p xs).kind)
    (λ m. second (one_lexes p xs (met_good (token_at p xs).kind m)))
    (λ m. ([], Ahead.all_there Lexes.none (nothing_met p xs h (end_no_token (met (token_at p xs).kind) m))))
    (λ m. ([], Ahead.all_there Lexes.none (nothing_met p xs h (flaw_no_token (met (token_at p xs).kind) m))))
  where
    p₁ : ℕ
    p₁ = (token_at p xs).to

    x₁ : Bytes
    x₁ = (token_at p xs).rest

    second : Lexes p xs (lexeme_of p xs (token_at p xs) ∷ []) (token_at p xs).to (token_at p xs).rest → (us : List Lexeme) × Ahead p xs us
    second l =
        let b : length x₁ < turns = (let s = lexes_shorter l in omega arith) in
        cases_met (met (token_at p₁ x₁).kind)
        (λ m. (lexeme_of p xs (token_at p xs) ∷ lexeme_of p₁ x₁ (token_at p₁ x₁) ∷ [], Ahead.enough (lexes_join l (one_lexes p₁ x₁ (met_good (token_at p₁ x₁).kind m))) (omega arith)))
        (λ m. (lexeme_of p xs (token_at p xs) ∷ [], Ahead.all_there l (nothing_met p₁ x₁ b (end_no_token (met (token_at p₁ x₁).kind) m))))
        (λ m. (lexeme_of p xs (token_at p xs) ∷ [], Ahead.all_there l (nothing_met p₁ x₁ b (flaw_no_token (met (token_at p₁ x₁).kind) m))))

object_by_fact : (p : ℕ) (xs : Bytes) → object p xs ≡ object_by 32 p xs
unfolding object
object_by_fact p xs = refl

sound_at : (p : ℕ) (xs : Bytes) (o : Obj) (q : ℕ) (rest : Bytes) → length xs < turns → object p xs ≡ ok o q rest → SpelledAt p xs o q rest
sound_at p xs o q rest h e = made (object_told 32 p xs o q rest h (sym (object_by_fact p xs) ∙ e))
  where
    made : Told 32 p xs o q rest → SpelledAt p xs o q rest
    made t =
        let b : length rest < turns = (let s = lexes_shorter t.lexes in omega arith) in
        let a = ahead_of q rest b in
        record { tokens = t.tokens; next = a.0; own = t.lexes; ahead = a.1; spells = t.spells a.0 a.1 }

pub objects_are_spelled : ObjectsAreSpelled
objects_are_spelled = record {
  sound = sound_at;
  complete = λ p xs o q rest h s. object_by_fact p xs ∙ spells_read s.spells p xs q rest h s.own s.ahead;
  unique = spelled_once;
}
