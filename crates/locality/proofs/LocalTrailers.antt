-- A trailer's dictionary decides itself.
use Rattle.std.proofs.Common.{◌≡◌, ℕ, ◌+◌, ◌++◌, length, None, sym, refl, ap, ◌∙◌, subst, append_assoc, arith, length-append}
use Rattle.format.specs.Bytes.{Bytes, ok}
use Rattle.format.specs.Objects.{Entries, no_entries, entries, object_by}
use Rattle.format.specs.Sections.{no_dict, trailer_at}
use Rattle.format.specs.Strings.{turns}
use Rattle.format.specs.Tokens.{open_array, close_array, open_dict, close_dict, Kind, int, real, name, text, hex, mark, word, ended, flawed, Token, tok, token_at}
use Rattle.locality.specs.Locality.{Good, is_run, Taken}
use Rattle.locality.specs.LocalityTrailers.{LocalTrailer}
use Rattle.locality.proofs.Cases.{cases_o}
use Rattle.locality.proofs.Local.{never, same_rest, same_value, same_place, then_ok}
use Rattle.locality.proofs.Tokens.{token_local}
use Rattle.locality.proofs.Held.{Inside}
use Rattle.locality.proofs.Dictionaries.{entries_local}
use Rattle.locality.proofs.Objects.{object_local}
use Rattle.locality.proofs.Tests.{clash, not_no}

opens_dict : (p : ℕ) (k : Kind) → no_dict p k ≡ None → k ≡ mark open_dict
unfolding no_dict
opens_dict p (mark open_dict) e = refl
opens_dict p (mark close_dict) e = clash (cc)
opens_dict p (mark open_array) e = clash (cc)
opens_dict p (mark close_array) e = clash (cc)
opens_dict p (word w) e = clash (cc)
opens_dict p (int u z) e = clash (cc)
opens_dict p (real w) e = clash (cc)
opens_dict p (name d) e = clash (cc)
opens_dict p (text w) e = clash (cc)
opens_dict p (hex w) e = clash (cc)
opens_dict p ended e = clash (cc)
opens_dict p (flawed f) e = clash (cc)

trailer_is : (t : Token) (es : Entries) (q : ℕ) (ys : Bytes) → t.kind ≡ mark open_dict → entries (object_by 31) turns no_entries t.to t.rest ≡ ok es q ys → trailer_at t ≡ ok (t.from, es) q ys
unfolding trailer_at no_dict
trailer_is t es q ys k e = rw (k, trailer_at) (rw e refl)

-- what was read as a trailer's dictionary is read so before any bytes
pub trailer_local : (p : ℕ) (xs : Bytes) (s : ℕ) (es : Entries) (q : ℕ) (rest : Bytes) → trailer_at (token_at p xs) ≡ ok (s, es) q rest → LocalTrailer p xs s es q rest
unfolding trailer_at Good is_run
trailer_local p xs s es q rest e =
    cases_o (no_dict (token_at p xs).from (token_at p xs).kind)
    (λ a.
    let u = then_ok (entries (object_by 31) turns no_entries (token_at p xs).to (token_at p xs).rest) (λ fs r zs. ok ((token_at p xs).from, fs) r zs) (s, es) q rest (rw (a, trailer_at) at e) in
    let k : (token_at p xs).kind ≡ mark open_dict = opens_dict (token_at p xs).from (token_at p xs).kind a in
    let w : ((token_at p xs).from, u.0) ≡ (s, es) = same_value u.4 in
    go k (token_local p xs (subst Good (sym k) tt))
    (subst (λ zs. Inside (entries (object_by 31) turns no_entries) (token_at p xs).rest es zs) (same_rest u.4)
    (subst (λ fs. Inside (entries (object_by 31) turns no_entries) (token_at p xs).rest fs u.2) (ap (λ (v : ℕ × Entries). v.1) w)
    (entries_local (object_by 31) (object_local 31) turns no_entries (token_at p xs).to (token_at p xs).rest u.0 u.1 u.2 u.3))))
    (λ f a. never (rw (a, trailer_at) at e))
  where
    go : (token_at p xs).kind ≡ mark open_dict → Taken xs (token_at p xs) → Inside (entries (object_by 31) turns no_entries) (token_at p xs).rest es rest → LocalTrailer p xs s es q rest
    go k l i = record {
      taken = l.gap ++ (l.core ++ i.loc.pre);
      lead = length l.gap;
      parts = whole;
      starts = ap (λ (v : ℕ × Entries). v.0) (same_value (sym e ∙ here));
      ends = same_place (sym e ∙ here);
      again = λ p' ys. again p' ys;
    }
      where
        whole : xs ≡ (l.gap ++ (l.core ++ i.loc.pre)) ++ rest
        whole = l.parts ∙ ap (λ zs. l.gap ++ (l.core ++ zs)) i.loc.parts ∙ simp append_assoc

        again : (p' : ℕ) (ys : Bytes) → trailer_at (token_at p' ((l.gap ++ (l.core ++ i.loc.pre)) ++ ys)) ≡ ok (p' + length l.gap, es) (p' + length (l.gap ++ (l.core ++ i.loc.pre))) ys
        again p' ys =
            ap (λ zs. trailer_at (token_at p' zs)) (let r : (l.gap ++ (l.core ++ i.loc.pre)) ++ ys ≡ l.gap ++ (l.core ++ (i.loc.pre ++ ys)) = simp append_assoc in r)
            ∙ ap trailer_at (l.again p' (i.loc.pre ++ ys) (λ h. not_no (is_run (token_at p xs).kind) (ap is_run k) h))
            ∙ trailer_is (tok (token_at p xs).kind (p' + length l.gap) (l.core ++ (i.loc.pre ++ ys)) (p' + length l.gap + length l.core) (i.loc.pre ++ ys)) es (p' + length (l.gap ++ (l.core ++ i.loc.pre))) ys k
            (i.loc.again (p' + length l.gap + length l.core) ys tt
            ∙ (let v : p' + length l.gap + length l.core + length i.loc.pre ≡ p' + length (l.gap ++ (l.core ++ i.loc.pre)) = simp length-append (omega arith) in λ j. ok es (v j) ys))

        here : trailer_at (token_at p xs) ≡ ok (p + length l.gap, es) (p + length (l.gap ++ (l.core ++ i.loc.pre))) rest
        here = ap (λ zs. trailer_at (token_at p zs)) whole ∙ again p rest
