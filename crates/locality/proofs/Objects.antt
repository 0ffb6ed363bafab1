-- An object's own bytes decide it.
use Rattle.std.proofs.Common.{◌≡◌, ℕ, zero, suc, ◌+◌, Bool, true, false, ◌&&◌, eqb, leb, [], ◌∷◌, ◌++◌, length, ℤ, pos, negsuc, Some, codes, sym, refl, ap, ◌∙◌, subst, append_assoc, arith, length-append, eqb-true}
use Rattle.format.specs.Bytes.{Bytes, Got, ok, then, is_regular, same}
use Rattle.format.specs.Strings.{turns}
use Rattle.format.specs.Tokens.{Mark, open_array, close_array, open_dict, close_dict, Kind, int, real, name, text, hex, mark, word, ended, flawed, Token, tok, token_at}
use Rattle.format.specs.Objects.{Obj, null, boolean, integer, decimal, literal, hexadecimal, named, array, dict, ref, no_entries, Reader, plain_int, plain_word, is_word, ref_mark, ref_rest, tried, trial, word_obj, mark_obj, of_token, closes_array, items, one, object_by, too_deep, in_array, in_dict, entries}
use Rattle.locality.specs.Locality.{Good, is_run, stops, Fits}
use Rattle.locality.specs.LocalityObjects.{R, ends_run, is_number, After}
use Rattle.locality.proofs.Cases.{cases, cases_o}
use Rattle.locality.proofs.Local.{Local, Any, never, same_rest, same_value, then_ok}
use Rattle.locality.proofs.Tokens.{token_stops}
use Rattle.locality.proofs.Held.{Held, Holds, no_ref_unless_int, Front, front_of, no_mark, fits_next}
use Rattle.locality.proofs.Arrays.{items_local}
use Rattle.locality.proofs.Dictionaries.{entries_local}
use Rattle.locality.proofs.Tests.{clash, not_no}

-- an object that is one token
simple : (r : Reader) (p : ℕ) (xs : Bytes) (o : Obj) → Good (token_at p xs).kind →
    ((t : Token) → t.kind ≡ (token_at p xs).kind → (p' : ℕ) (zs : Bytes) → token_at p' zs ≡ t → After o t.rest → r p' zs ≡ ok o t.to t.rest) →
    (is_run (token_at p xs).kind ≡ true → ends_run o ≡ true) → (ends_run o ≡ true → stops is_regular (token_at p xs).rest ≡ true) →
    is_word R (token_at p xs).kind ≡ false → closes_array (token_at p xs).kind ≡ false →
    Held r xs o (token_at p xs).rest
unfolding ref_rest ref_mark
simple r p xs o g f e h w b = go (front_of p xs g)
  where
    go : Front xs (token_at p xs) → Held r xs o (token_at p xs).rest
    go l =
        let fits : (ys : Bytes) → After o ys → Fits (token_at p xs).kind ys = λ ys a i. a.run (e i) in
        record {
          kind = (token_at p xs).kind;
          loc = record {
            pre = l.pre;
            parts = l.parts;
            again = λ p' ys a. f (tok (token_at p xs).kind (l.from p') (l.bytes ys) (p' + length l.pre) ys) refl p' (l.pre ++ ys) (l.again p' ys (fits ys a)) a;
          };
          had = h;
          front = λ p' ys a. ap (λ (u : Token). u.kind) (l.again p' ys (fits ys a));
          good = g;
          not_r = w;
          not_close = b;
          no_ref = λ n p' ys a c. rw (l.again p' ys (fits ys a)) (no_mark n (tok (token_at p xs).kind (l.from p') (l.bytes ys) (p' + length l.pre) ys) (c (p' + length l.pre)));
        }

module _ (A D : ℕ → Reader) where
  one_at : (p : ℕ) (zs : Bytes) (t : Token) (k : Kind) → token_at p zs ≡ t → t.kind ≡ k → one A D p zs ≡ of_token (A t.from) (D t.from) k t
  unfolding one
  one_at p zs t k e f = rw e (rw f refl)

  one_simple : (p : ℕ) (xs : Bytes) (k : Kind) (o : Obj) → (token_at p xs).kind ≡ k → Good k →
      ((t : Token) → After o t.rest → of_token (A t.from) (D t.from) k t ≡ ok o t.to t.rest) →
      is_run k ≡ ends_run o → is_word R k ≡ false → closes_array k ≡ false → Held (one A D) xs o (token_at p xs).rest
  one_simple p xs k o e g f r w b =
      simple (one A D) p xs o (subst Good (sym e) g)
      (λ t h p' zs u a. one_at p' zs t k u (h ∙ e) ∙ f t a)
      (λ i. sym r ∙ ap is_run (sym e) ∙ i)
      (λ i. token_stops p xs (ap is_run e ∙ r ∙ i))
      (ap (is_word R) e ∙ w)
      (ap (closes_array) e ∙ b)

  held_at : {xs : Bytes} {o o' : Obj} {q q' : ℕ} {rest rest' : Bytes} → ok o q rest ≡ ok o' q' rest' → Held (one A D) xs o rest → Held (one A D) xs o' rest'
  held_at {xs} {o} {o'} {rest = rest} {rest' = rest'} e h =
      let a : o ≡ o' = cc in let b : rest ≡ rest' = cc in
      subst (λ z. Held (one A D) xs o' z) b (subst (λ z. Held (one A D) xs z rest) a h)

  number_held : (p : ℕ) (xs : Bytes) (u : Bool) (z : ℤ) → (token_at p xs).kind ≡ int u z → Held (one A D) xs (integer z) (token_at p xs).rest
  unfolding Good is_run is_word plain_word closes_array ends_run is_number of_token trial tried
  number_held p xs true (pos n) e = one_simple p xs (int true (pos n)) (integer (pos n)) e tt (λ t a. rw (a.alone refl n t.to) refl) refl refl refl
  number_held p xs true (negsuc n) e = one_simple p xs (int true (negsuc n)) (integer (negsuc n)) e tt (λ t a. refl) refl refl refl
  number_held p xs false z e = one_simple p xs (int false z) (integer z) e tt (λ t a. refl) refl refl refl

-- an unsigned integer is a token, and not `R`
pub plain_good : (k : Kind) (g : ℕ) → plain_int k ≡ Some g → (Good k) × (is_word R k ≡ false)
unfolding plain_int Good is_word plain_word
plain_good (int b z) g e = (tt, refl)
plain_good (real w) g e = clash (cc)
plain_good (name d) g e = clash (cc)
plain_good (text w) g e = clash (cc)
plain_good (hex w) g e = clash (cc)
plain_good (mark m) g e = clash (cc)
plain_good (word w) g e = clash (cc)
plain_good ended g e = clash (cc)
plain_good (flawed f) g e = clash (cc)

-- a word is a token that a regular byte would lengthen
pub word_good : (v : Bytes) (k : Kind) → is_word v k ≡ true → (Good k) × (is_run k ≡ true)
unfolding is_word plain_word Good is_run
word_good v (word w) e = (tt, refl)
word_good v (int b z) e = clash (cc)
word_good v (real w) e = clash (cc)
word_good v (name d) e = clash (cc)
word_good v (text w) e = clash (cc)
word_good v (hex w) e = clash (cc)
word_good v (mark m) e = clash (cc)
word_good v ended e = clash (cc)
word_good v (flawed f) e = clash (cc)

module _ (A D : ℕ → Reader) (p : ℕ) (xs : Bytes) (n g : ℕ) where
  abbrev t₁ : Token
  t₁ = token_at p xs

  abbrev t₂ : Token
  t₂ = token_at t₁.to t₁.rest

  abbrev t₃ : Token
  t₃ = token_at t₂.to t₂.rest

  ref_held : t₁.kind ≡ int true (pos n) → plain_int t₂.kind ≡ Some g → leb 1 n && leb g 65535 ≡ true → is_word R t₃.kind ≡ true → Held (one A D) xs (ref n g) t₃.rest
  unfolding Good is_run is_word plain_word closes_array ends_run is_number of_token trial tried ref_rest ref_mark
  ref_held e₁ e₂ b e₃ = go (front_of p xs (subst Good (sym e₁) tt)) (front_of t₁.to t₁.rest (plain_good t₂.kind g e₂).0) (front_of t₂.to t₂.rest (word_good R t₃.kind e₃).0)
    where
      go : Front xs t₁ → Front t₁.rest t₂ → Front t₂.rest t₃ → Held (one A D) xs (ref n g) t₃.rest
      go l₁ l₂ l₃ = record {
        kind = int true (pos n);
        loc = record {
          pre = l₁.pre ++ (l₂.pre ++ l₃.pre);
          parts = l₁.parts ∙ ap (λ zs. l₁.pre ++ zs) (l₂.parts ∙ ap (λ zs. l₂.pre ++ zs) l₃.parts) ∙ sym (regroup t₃.rest);
          again = λ p' ys a.
              rw (regroup ys)
              (one_at A D p' (l₁.pre ++ (l₂.pre ++ (l₃.pre ++ ys))) (tok t₁.kind (l₁.from p') (l₁.bytes (l₂.pre ++ (l₃.pre ++ ys))) (p' + length l₁.pre) (l₂.pre ++ (l₃.pre ++ ys))) (int true (pos n)) (first_token p' ys) e₁
              ∙ rw (found (p' + length l₁.pre) ys (a.run refl))
              (let v : p' + length l₁.pre + length l₂.pre + length l₃.pre ≡ p' + length (l₁.pre ++ (l₂.pre ++ l₃.pre)) = simp length-append (omega arith) in
              λ i. ok (ref n g) (v i) ys));
        };
        had = λ _. token_stops t₂.to t₂.rest (word_good R t₃.kind e₃).1;
        front = λ p' ys a. rw (regroup ys) (ap (λ (u : Token). u.kind) (first_token p' ys) ∙ e₁);
        good = tt;
        not_r = refl;
        not_close = refl;
        no_ref = λ m p' ys a c. rw (regroup ys) (rw (first_token p' ys)
            (no_mark m (tok t₁.kind (l₁.from p') (l₁.bytes (l₂.pre ++ (l₃.pre ++ ys))) (p' + length l₁.pre) (l₂.pre ++ (l₃.pre ++ ys)))
            (rw (second_token (p' + length l₁.pre) ys) (plain_good t₂.kind g e₂).1)));
      }
        where
          regroup : (ys : Bytes) → (l₁.pre ++ (l₂.pre ++ l₃.pre)) ++ ys ≡ l₁.pre ++ (l₂.pre ++ (l₃.pre ++ ys))
          regroup ys = simp append_assoc

          first_token : (p' : ℕ) (ys : Bytes) → token_at p' (l₁.pre ++ (l₂.pre ++ (l₃.pre ++ ys))) ≡ tok t₁.kind (l₁.from p') (l₁.bytes (l₂.pre ++ (l₃.pre ++ ys))) (p' + length l₁.pre) (l₂.pre ++ (l₃.pre ++ ys))
          first_token p' ys = l₁.again p' (l₂.pre ++ (l₃.pre ++ ys)) (fits_next p xs t₂ (plain_good t₂.kind g e₂).0 l₂ (l₃.pre ++ ys))

          second_token : (p' : ℕ) (ys : Bytes) → token_at p' (l₂.pre ++ (l₃.pre ++ ys)) ≡ tok t₂.kind (l₂.from p') (l₂.bytes (l₃.pre ++ ys)) (p' + length l₂.pre) (l₃.pre ++ ys)
          second_token p' ys = l₂.again p' (l₃.pre ++ ys) (fits_next t₁.to t₁.rest t₃ (word_good R t₃.kind e₃).0 l₃ ys)

          found : (p' : ℕ) (ys : Bytes) → stops is_regular ys ≡ true → ref_rest n (token_at p' (l₂.pre ++ (l₃.pre ++ ys))) ≡ Some (ref n g, p' + length l₂.pre + length l₃.pre, ys)
          found p' ys s =
              rw (second_token p' ys)
              (rw (e₂, ref_rest)
              (rw b (rw (l₃.again (p' + length l₂.pre) ys (λ _. s)) (rw (e₃, ref_mark) refl))))

-- bytes that are told the same are equal
pub same_eq : (v w : Bytes) → same v w ≡ true → v ≡ w
unfolding same
same_eq [] [] e = refl
same_eq [] (y ∷ ys) e = clash (cc)
same_eq (x ∷ xs) [] e = clash (cc)
same_eq (x ∷ xs) (y ∷ ys) e =
    cases (eqb x y)
    (λ a. let h : same xs ys ≡ true = rw (a, same) at e in let q : x ≡ y = eqb-true x y a in let r = same_eq xs ys h in λ i. q i ∷ r i)
    (λ a. let h : false ≡ true = rw (a, same) at e in clash (cc))

-- what is read inside a bracket, whatever the bracket's place
pub record Closed (A : ℕ → Reader) : Type 0 where
  pub ends : (s p : ℕ) (xs : Bytes) (o : Obj) (q : ℕ) (rest : Bytes) → A s p xs ≡ ok o q rest → (ends_run o ≡ false) × (is_number o ≡ false)
  pub loc : (s p : ℕ) (xs : Bytes) (o : Obj) (q : ℕ) (rest : Bytes) → A s p xs ≡ ok o q rest → Local (A s) Any xs o rest
  pub any : (s s' p : ℕ) (xs : Bytes) (o : Obj) (q : ℕ) (rest : Bytes) → A s p xs ≡ ok o q rest → A s' p xs ≡ ok o q rest

module _ (A D : ℕ → Reader) where
  abbrev Word : ℕ → Bytes → Bytes → Type 0
  Word p xs w = (o : Obj) (q : ℕ) (rest : Bytes) → (token_at p xs).kind ≡ word w → word_obj w (token_at p xs) ≡ ok o q rest → Held (one A D) xs o rest

  true_held : (p : ℕ) (xs : Bytes) → Word p xs (codes "true")
  unfolding Good is_run is_word plain_word closes_array ends_run of_token word_obj same
  true_held p xs o q rest k e = held_at A D e (one_simple A D p xs (word (codes "true")) (boolean true) k tt (λ t a. refl) refl refl refl)

  false_held : (p : ℕ) (xs : Bytes) → Word p xs (codes "false")
  unfolding Good is_run is_word plain_word closes_array ends_run of_token word_obj same
  false_held p xs o q rest k e = held_at A D e (one_simple A D p xs (word (codes "false")) (boolean false) k tt (λ t a. refl) refl refl refl)

  null_held : (p : ℕ) (xs : Bytes) → Word p xs (codes "null")
  unfolding Good is_run is_word plain_word closes_array ends_run of_token word_obj same
  null_held p xs o q rest k e = held_at A D e (one_simple A D p xs (word (codes "null")) null k tt (λ t a. refl) refl refl refl)

  word_held : (p : ℕ) (xs : Bytes) (w : Bytes) → Word p xs w
  unfolding word_obj
  word_held p xs w o q rest k e =
      cases (same w (codes "true")) (λ a. subst (Word p xs) (sym (same_eq w (codes "true") a)) (true_held p xs) o q rest k e)
      (λ a.
      cases (same w (codes "false")) (λ b. subst (Word p xs) (sym (same_eq w (codes "false") b)) (false_held p xs) o q rest k e)
      (λ b.
      cases (same w (codes "null")) (λ c. subst (Word p xs) (sym (same_eq w (codes "null") c)) (null_held p xs) o q rest k e)
      (λ c. never (rw (a, b, c, word_obj) at e))))

  -- an array or a dictionary: the mark, then what is inside
  mark_held : (B : ℕ → Reader) (c : Mark) → Closed B → closes_array (mark c) ≡ false → ((t : Token) → of_token (A t.from) (D t.from) (mark c) t ≡ B t.from t.to t.rest) →
      (p : ℕ) (xs : Bytes) (o : Obj) (q : ℕ) (rest : Bytes) → (token_at p xs).kind ≡ mark c → B (token_at p xs).from (token_at p xs).to (token_at p xs).rest ≡ ok o q rest → Held (one A D) xs o rest
  unfolding Good is_run is_word plain_word closes_array plain_int
  mark_held B c cl nc f p xs o q rest k e = go (front_of p xs (subst Good (sym k) tt)) (cl.loc (token_at p xs).from (token_at p xs).to (token_at p xs).rest o q rest e)
    where
      go : Front xs (token_at p xs) → Local (B (token_at p xs).from) Any (token_at p xs).rest o rest → Held (one A D) xs o rest
      go l m = record {
        kind = mark c;
        loc = record {
          pre = l.pre ++ m.pre;
          parts = l.parts ∙ ap (λ zs. l.pre ++ zs) m.parts ∙ sym (append_assoc l.pre m.pre rest);
          again = λ p' ys a.
              rw append_assoc
              (one_at A D p' (l.pre ++ (m.pre ++ ys)) (t' p' ys) (mark c) (at p' ys) k
              ∙ f (t' p' ys)
              ∙ cl.any (token_at p xs).from (l.from p') (p' + length l.pre) (m.pre ++ ys) o (p' + length l.pre + length m.pre) ys (m.again (p' + length l.pre) ys tt)
              ∙ (let v : p' + length l.pre + length m.pre ≡ p' + length (l.pre ++ m.pre) = rw length-append (omega arith) in λ i. ok o (v i) ys));
        };
        had = λ h. not_no (ends_run o) (cl.ends (token_at p xs).from (token_at p xs).to (token_at p xs).rest o q rest e).0 h;
        front = λ p' ys a. rw append_assoc (ap (λ (u : Token). u.kind) (at p' ys) ∙ k);
        good = tt;
        not_r = refl;
        not_close = nc;
        no_ref = λ n p' ys a h. rw append_assoc (no_ref_unless_int n (token_at p' (l.pre ++ (m.pre ++ ys))) (ap (λ (u : Token). plain_int u.kind) (at p' ys) ∙ ap plain_int k));
      }
        where
          t' : ℕ → Bytes → Token
          t' p' ys = tok (token_at p xs).kind (l.from p') (l.bytes (m.pre ++ ys)) (p' + length l.pre) (m.pre ++ ys)

          at : (p' : ℕ) (ys : Bytes) → token_at p' (l.pre ++ (m.pre ++ ys)) ≡ t' p' ys
          at p' ys = l.again p' (m.pre ++ ys) (λ h. not_no (is_run (token_at p xs).kind) (ap is_run k) h)

  int_held : (p : ℕ) (xs : Bytes) (u : Bool) (z : ℤ) (o : Obj) (q : ℕ) (rest : Bytes) → (token_at p xs).kind ≡ int u z → trial u z (token_at p xs) ≡ ok o q rest → Held (one A D) xs o rest
  unfolding trial tried ref_rest ref_mark
  int_held p xs true (negsuc n) o q rest k e = held_at A D e (number_held A D p xs true (negsuc n) k)
  int_held p xs false z o q rest k e = held_at A D e (number_held A D p xs false z k)
  int_held p xs true (pos n) o q rest k e =
      cases_o (plain_int (t₂ A D p xs n 0).kind)
      (λ a. held_at A D (rw (a, ref_rest) at e) (number_held A D p xs true (pos n) k))
      (λ g a.
      cases (leb 1 n && leb g 65535)
      (λ b.
      cases (is_word R (t₃ A D p xs n g).kind)
      (λ c. held_at A D (rw (a, b, c, ref_rest, ref_mark) at e) (ref_held A D p xs n g k a b c))
      (λ c. held_at A D (rw (a, b, c, ref_rest, ref_mark) at e) (number_held A D p xs true (pos n) k)))
      (λ b. held_at A D (rw (a, b, ref_rest) at e) (number_held A D p xs true (pos n) k)))

  one_local : Closed A → Closed D → Holds (one A D)
  unfolding one of_token Good is_run is_word plain_word closes_array ends_run mark_obj
  one_local ca cd p xs o q rest e = go (token_at p xs).kind refl e
    where
      go : (k : Kind) → (token_at p xs).kind ≡ k → of_token (A (token_at p xs).from) (D (token_at p xs).from) k (token_at p xs) ≡ ok o q rest → Held (one A D) xs o rest
      go (int u z) k h = int_held p xs u z o q rest k h
      go (real w) k h = held_at A D h (one_simple A D p xs (real w) (decimal w) k tt (λ t a. refl) refl refl refl)
      go (name d) k h = held_at A D h (one_simple A D p xs (name d) (named d) k tt (λ t a. refl) refl refl refl)
      go (text w) k h = held_at A D h (one_simple A D p xs (text w) (literal w) k tt (λ t a. refl) refl refl refl)
      go (hex w) k h = held_at A D h (one_simple A D p xs (hex w) (hexadecimal w) k tt (λ t a. refl) refl refl refl)
      go (word w) k h = word_held p xs w o q rest k h
      go ended k h = never h
      go (flawed f) k h = never h
      go (mark open_array) k h = mark_held A open_array ca refl (λ t. refl) p xs o q rest k h
      go (mark open_dict) k h = mark_held D open_dict cd refl (λ t. refl) p xs o q rest k h
      go (mark close_array) k h = never h
      go (mark close_dict) k h = never h

deep_closed : Closed too_deep
unfolding too_deep
deep_closed = record { ends = λ s p xs o q rest e. never e; loc = λ s p xs o q rest e. never e; any = λ s s' p xs o q rest e. never e }

-- a reader whose answers are wrapped
wrapped : {A : Type 0} (r : ℕ → Bytes → Got A) (f : A → Obj) (xs : Bytes) (a : A) (rest : Bytes) → Local r Any xs a rest → Local (λ p ys. then (r p ys) (λ b q zs. ok (f b) q zs)) Any xs (f a) rest
wrapped r f xs a rest l = record { pre = l.pre; parts = l.parts; again = λ p ys h. rw (l.again p ys h) refl }

array_closed : (elem : Reader) → Holds elem → Closed (in_array elem)
unfolding in_array ends_run is_number
array_closed elem hold = record {
  ends = λ s p xs o q rest e. let u = then_ok (items elem turns p xs) (λ os r zs. ok (array os) r zs) o q rest e in let m : array u.0 ≡ o = same_value u.4 in (ap ends_run (sym m), ap is_number (sym m));
  loc = λ s p xs o q rest e. let u = then_ok (items elem turns p xs) (λ os r zs. ok (array os) r zs) o q rest e in
      subst (λ z. Local (in_array elem s) Any xs o z) (same_rest u.4) (subst (λ z. Local (in_array elem s) Any xs z u.2) (same_value u.4)
      (wrapped (items elem turns) array xs u.0 u.2 (items_local elem hold turns p xs u.0 u.1 u.2 u.3).loc));
  any = λ s s' p xs o q rest e. e;
}

dict_closed : (elem : Reader) → Holds elem → Closed (in_dict elem)
unfolding in_dict ends_run is_number
dict_closed elem hold = record {
  ends = λ s p xs o q rest e. let u = then_ok (entries elem turns no_entries p xs) (λ es r zs. ok (dict es) r zs) o q rest e in let m : dict u.0 ≡ o = same_value u.4 in (ap ends_run (sym m), ap is_number (sym m));
  loc = λ s p xs o q rest e. let u = then_ok (entries elem turns no_entries p xs) (λ es r zs. ok (dict es) r zs) o q rest e in
      subst (λ z. Local (in_dict elem s) Any xs o z) (same_rest u.4) (subst (λ z. Local (in_dict elem s) Any xs z u.2) (same_value u.4)
      (wrapped (entries elem turns no_entries) dict xs u.0 u.2 (entries_local elem hold turns no_entries p xs u.0 u.1 u.2 u.3).loc));
  any = λ s s' p xs o q rest e. e;
}

-- an object's own bytes decide it
pub object_local : (d : ℕ) → Holds (object_by d)
unfolding object_by
object_local zero = one_local too_deep too_deep deep_closed deep_closed
object_local (suc d) = one_local (in_array (object_by d)) (in_dict (object_by d)) (array_closed (object_by d) (object_local d)) (dict_closed (object_by d) (object_local d))
