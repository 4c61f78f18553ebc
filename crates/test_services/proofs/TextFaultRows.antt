-- The first fault of texts as names, as paths and as globs, of paths that go on, and what is told of each fault.
use Rattle.std.proofs.Common.{◌≡◌, ℕ, List, [], ◌∷◌, ◌++◌, Some, None, refl}
use Rattle.std.specs.Prelude.{codes, Option, length, replicate}
use Rattle.uvm_glob.specs.declared.faults.PathFault.{PathFault}
use Rattle.uvm_glob.specs.declared.faults.PathFault.TheVariants.{Empty, TooLong, BadByte, TooDeep, Memory}
use Rattle.uvm_glob.specs.Faults.{fault_text}
use Rattle.uvm_glob.specs.Names.{name_fault}
use Rattle.uvm_glob.specs.Globs.{glob_fault}
use Rattle.uvm_glob.specs.Paths.{path_fault, path_text, names_of, between_dots}

-- so many times the byte `a`, and `*`
abbrev letters : ℕ → List ℕ
letters n = replicate n 97

abbrev stars : ℕ → List ℕ
stars n = replicate n 42

-- fifteen names of 64 bytes, and one of so many
abbrev long_path : ℕ → List (List ℕ)
long_path last = replicate 15 (letters 64) ++ letters last ∷ []

abbrev longest_path : List (List ℕ)
longest_path = long_path 49

longest-path-has-1024-bytes : length (path_text longest_path) ≡ 1024
longest-path-has-1024-bytes = refl

-- the names 1, 2 and so on up to 32
abbrev deepest_path : List (List ℕ)
deepest_path = names_of (codes "1.2.3.4.5.6.7.8.9.10.11.12.13.14.15.16.17.18.19.20.21.22.23.24.25.26.27.28.29.30.31.32")

deepest-path-has-32-names : length deepest_path ≡ 32
deepest-path-has-32-names = refl

abbrev fault_of_path : List ℕ → Option PathFault
fault_of_path text = path_fault (between_dots text)

-- names

no-byte-is-no-name : name_fault [] ≡ Some Empty
unfolding name_fault
no-byte-is-no-name = refl

name-of-64-bytes-is-taken : name_fault (letters 64) ≡ None
unfolding name_fault
name-of-64-bytes-is-taken = refl

name-of-65-bytes-is-too-long : name_fault (letters 65) ≡ Some TooLong
unfolding name_fault
name-of-65-bytes-is-too-long = refl

length-of-a-name-comes-before-its-bytes : name_fault (stars 65) ≡ Some TooLong
unfolding name_fault
length-of-a-name-comes-before-its-bytes = refl

name-has-no-star : name_fault (codes "a*") ≡ Some BadByte
unfolding name_fault
name-has-no-star = refl

name-has-no-dot : name_fault (codes "a.b") ≡ Some BadByte
unfolding name_fault
name-has-no-dot = refl

name-has-the-first-and-the-last-printed-byte : name_fault (codes "!~") ≡ None
unfolding name_fault
name-has-the-first-and-the-last-printed-byte = refl

-- paths

empty-text-is-no-path : fault_of_path [] ≡ Some Empty
unfolding path_fault
empty-text-is-no-path = refl

path-has-no-empty-name : fault_of_path (codes "a..b") ≡ Some Empty
unfolding path_fault
path-has-no-empty-name = refl

empty-name-comes-before-a-bad-byte : fault_of_path (codes "a*.b.") ≡ Some Empty
unfolding path_fault
empty-name-comes-before-a-bad-byte = refl

path-of-a-name-of-64-bytes-is-taken : fault_of_path (letters 64) ≡ None
unfolding path_fault
path-of-a-name-of-64-bytes-is-taken = refl

length-of-a-path-comes-before-its-bytes : fault_of_path (stars 65) ≡ Some TooLong
unfolding path_fault
length-of-a-path-comes-before-its-bytes = refl

path-of-1024-bytes-is-taken : fault_of_path (path_text longest_path) ≡ None
unfolding path_fault
path-of-1024-bytes-is-taken = refl

path-of-1025-bytes-is-too-long : fault_of_path (path_text (long_path 50)) ≡ Some TooLong
unfolding path_fault
path-of-1025-bytes-is-too-long = refl

path-has-no-star : fault_of_path (codes "a.b*") ≡ Some BadByte
unfolding path_fault
path-has-no-star = refl

path-of-32-names-is-taken : fault_of_path (path_text deepest_path) ≡ None
unfolding path_fault
path-of-32-names-is-taken = refl

path-of-33-names-is-too-deep : fault_of_path (path_text (deepest_path ++ codes "33" ∷ [])) ≡ Some TooDeep
unfolding path_fault
path-of-33-names-is-too-deep = refl

-- paths that go on with a name

name-goes-on-from-the-top : path_fault ([] ++ codes "c" ∷ []) ≡ None
unfolding path_fault
name-goes-on-from-the-top = refl

name-goes-on-from-a-path : path_fault (names_of (codes "a.b") ++ codes "c" ∷ []) ≡ None
unfolding path_fault
name-goes-on-from-a-path = refl

name-below-a-path-has-a-dot-before-it : path_text (names_of (codes "a.b") ++ codes "c" ∷ []) ≡ codes "a.b.c"
name-below-a-path-has-a-dot-before-it = refl

name-below-the-deepest-path-is-too-deep : path_fault (deepest_path ++ codes "33" ∷ []) ≡ Some TooDeep
unfolding path_fault
name-below-the-deepest-path-is-too-deep = refl

name-below-the-longest-path-is-too-long : path_fault (longest_path ++ codes "c" ∷ []) ≡ Some TooLong
unfolding path_fault
name-below-the-longest-path-is-too-long = refl

-- globs

empty-text-is-a-glob : glob_fault [] ≡ None
unfolding glob_fault
empty-text-is-a-glob = refl

glob-has-brackets-dots-and-stars : glob_fault (codes "a[0].*") ≡ None
unfolding glob_fault
glob-has-brackets-dots-and-stars = refl

glob-of-1024-bytes-is-taken : glob_fault (path_text longest_path) ≡ None
unfolding glob_fault
glob-of-1024-bytes-is-taken = refl

glob-of-1025-bytes-is-too-long : glob_fault (path_text (long_path 50)) ≡ Some TooLong
unfolding glob_fault
glob-of-1025-bytes-is-too-long = refl

glob-has-no-slash : glob_fault (codes "a/b") ≡ Some BadByte
unfolding glob_fault
glob-has-no-slash = refl

glob-has-no-blank : glob_fault (codes "a b") ≡ Some BadByte
unfolding glob_fault
glob-has-no-blank = refl

glob-has-no-delete : glob_fault (97 ∷ 127 ∷ []) ≡ Some BadByte
unfolding glob_fault
glob-has-no-delete = refl

-- texts

empty-is-told : fault_text Empty ≡ codes "an empty name"
empty-is-told = refl

too-long-is-told : fault_text TooLong ≡ codes "too long"
too-long-is-told = refl

bad-byte-is-told : fault_text BadByte ≡ codes "a byte that may not stand there"
bad-byte-is-told = refl

too-deep-is-told : fault_text TooDeep ≡ codes "more than 32 names"
too-deep-is-told = refl

memory-is-told : fault_text Memory ≡ codes "out of memory"
memory-is-told = refl
