-- Tests of a table text's tokens that no token passes both of.
use Rattle.std.proofs.Common.{◌≡◌, Bool, true, false, refl}
use Rattle.std.specs.Prelude.{codes, ◌||◌}
use Rattle.mt_tokens.specs.declared.sign.Sign.{Sign}
use Rattle.mt_tokens.specs.Tokens.{Tok}
use Rattle.mt_tokens.specs.Words.{is_keyword, is_sign}
use Rattle.mt_phrases.proofs.TokenTests.{Apart, keys_apart, sign_no_key}
use Rattle.mt_syntax.specs.Reading.{is_clause_key}

none_of : (test a b c d : Tok → Bool) → Apart test a → Apart test b → Apart test c → Apart test d → (token : Tok) → test token ≡ true → (a token || (b token || (c token || d token))) ≡ false
none_of test a b c d no_a no_b no_c no_d token e = rw (no_a token e, no_b token e, no_c token e, no_d token e) refl

pub comment_no_clause : Apart (is_keyword (codes "COMMENT")) is_clause_key
comment_no_clause token e =
    none_of (is_keyword (codes "COMMENT")) (is_keyword (codes "PARTITION")) (is_keyword (codes "PRIMARY")) (is_keyword (codes "ORDER")) (is_keyword (codes "SETTINGS"))
    (keys_apart (codes "COMMENT") (codes "PARTITION") refl) (keys_apart (codes "COMMENT") (codes "PRIMARY") refl) (keys_apart (codes "COMMENT") (codes "ORDER") refl) (keys_apart (codes "COMMENT") (codes "SETTINGS") refl) token e

pub sign_no_clause : (a : Sign) → Apart (is_sign a) is_clause_key
sign_no_clause a token e =
    none_of (is_sign a) (is_keyword (codes "PARTITION")) (is_keyword (codes "PRIMARY")) (is_keyword (codes "ORDER")) (is_keyword (codes "SETTINGS"))
    (sign_no_key a (codes "PARTITION")) (sign_no_key a (codes "PRIMARY")) (sign_no_key a (codes "ORDER")) (sign_no_key a (codes "SETTINGS")) token e
