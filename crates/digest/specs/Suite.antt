-- RFC 1321, A.5, "Test suite".
use Rattle.std.specs.Prelude.{◌≡◌, List, [], ◌∷◌, ℕ, ◌+◌, ◌*◌}
use Prim.Native.Char.{code}
use Prim.Native.String.{String, [] as none, ◌∷◌ as ◌then◌}
use Rattle.digest.specs.Digest.{md5_of}

-- the codes of a text's characters
abbrev pub text_of : String → List ℕ
text_of none = []
text_of (c then s) = code c ∷ text_of s

-- bytes read as one number after n, as a digest is printed
abbrev pub printed : ℕ → List ℕ → ℕ
printed n [] = n
printed n (b ∷ bs) = printed (n * 256 + b) bs

-- the digest of a text, so read
abbrev pub md5 : String → ℕ
md5 s = printed 0 (md5_of (text_of s))

-- "The MD5 test suite [..] should print the following results"
abbrev pub Rfc1321Suite : Type 0
Rfc1321Suite =
    (md5 "" ≡ 0xd41d8cd98f00b204e9800998ecf8427e)
    × (md5 "a" ≡ 0x0cc175b9c0f1b6a831c399e269772661)
    × (md5 "abc" ≡ 0x900150983cd24fb0d6963f7d28e17f72)
    × (md5 "message digest" ≡ 0xf96b697d7cb7938d525a2f31aaf161d0)
    × (md5 "abcdefghijklmnopqrstuvwxyz" ≡ 0xc3fcd3d76192e4007dfb496cca67e13b)
    × (md5 "ABCDEFGHIJKLMNOPQRSTUVWXYZabcdefghijklmnopqrstuvwxyz0123456789" ≡ 0xd174ab98d277d9f5a5611c2c9f419d9f)
    × (md5 "12345678901234567890123456789012345678901234567890123456789012345678901234567890" ≡ 0x57edf4a22be3c955ac49da2e2107b67a)
