-- The names of other crates and of this crate's specs that its proofs cite, passed on from one place. Declares nothing.
pub use Rattle.std.proofs.Common.{Bool, IsTrue, List, MatchBool, None, Option, Some, [], add-one, ap, arith, cond, drop, eq-eqb, eqb-true, false, get_or, inl, inr, is_none, le-leb, leb, length, length-drop, nat_eq, nat_lt, ne_eqb, refl, replicate, rules, subst, suc, sym, take, tests, true, zero, ℕ, ◌&&◌, ◌++◌, ◌+◌, ◌-◌, ◌<◌, ◌==◌, ◌^◌, ◌||◌, ◌↔◌, ◌∙◌, ◌∷◌, ◌≡◌, ◌≢◌, ◌≤◌}
pub use Rattle.std.proofs.Math.Bool.{and_assoc}
pub use Rattle.std.proofs.Math.Seq.{drop-nil}
pub use Rattle.std.proofs.lemmas.Bool.Decides.{nat_tests}
pub use Rattle.std.proofs.lemmas.Bool.{and_from, and_left, and_parts, and_right, cases_Bool, cases_order, cond-false, cond-true, eqb-false, false≢true, le-ltb, lt-leb, ltb-false, not-false, or_cases, or_left, or_parts, or_right}
pub use Rattle.std.proofs.lemmas.Cmp.{ranked, tied_itself}
pub use Rattle.std.proofs.lemmas.Fmt.{digits_decimal}
pub use Rattle.std.proofs.lemmas.Grind.{common_steps}
pub use Rattle.std.proofs.lemmas.Iterator.Search.{all_from_yields_List, any_from_yields_List}
pub use Rattle.std.proofs.lemmas.Iterator.Splits.{YieldsList-from_slice_split}
pub use Rattle.std.proofs.lemmas.List.Folds.{list_all-append, list_any-append}
pub use Rattle.std.proofs.lemmas.List.Splits.{join_with_byte-slice_split, length-slice_split}
pub use Rattle.std.proofs.lemmas.List.{append-nil, append_assoc, drop-replicate, drop_at, drop_more, length-append, length-replicate, nil_from_length, take-append-drop, take_at, take_rest}
pub use Rattle.std.proofs.lemmas.Result.{err_from_is_err_and}
pub use Rattle.std.proofs.lemmas.Str.Ascii.{IsAscii-cons, IsAscii-nil}
pub use Rattle.std.proofs.lemmas.Str.Parse.{numerals_by_value, tells_all_ascii_digits}
pub use Rattle.std.proofs.lemmas.Str.{IsUtf8-from_ascii}
pub use Rattle.std.specs.Bool.{one_answer}
pub use Rattle.std.specs.Char.{is_ascii_digit}
pub use Rattle.std.specs.Cmp.Lexicographic.{bytes_decides, lists_total, nat_list_cmp_total, options_total, pointwise, pointwise_decides, slice_cmp}
pub use Rattle.std.specs.Cmp.{IsTotalOrder, back_total, nat_cmp_is, nat_cmp_total, on_total}
pub use Rattle.std.specs.Fmt.{decimal, signed_decimal}
pub use Rattle.std.specs.Int.Signed.{mag}
pub use Rattle.std.specs.List.{list_all, list_any}
pub use Rattle.std.specs.Option.{option_cmp}
pub use Rattle.std.specs.Ordering.{flip_args, nat_cmp, ordering_then}
pub use Rattle.std.specs.Prelude.{negsuc, pos, ℤ}
pub use Rattle.std.specs.Str.{IsAscii, IsUtf8, all_ascii_digits}
pub use Rattle.std.specs.declared.cmp.Ordering.TheVariants.{Equal, Greater, Less}
pub use Rattle.std.specs.declared.cmp.Ordering.{Ordering}
pub use Rattle.uvm_glob.specs.Differences.{first_difference, rank}
pub use Rattle.uvm_glob.specs.Faults.{fault_if, refusal}
pub use Rattle.uvm_glob.specs.Globs.{Matches, SomeSplit, after_one, glob_faults, is_glob, is_glob_byte, rests_of}
unfoldable pub use Rattle.uvm_glob.specs.Globs.{glob_fault, matches}
pub use Rattle.uvm_glob.specs.Limits.{most_name_bytes, most_names, most_text_bytes}
pub use Rattle.uvm_glob.specs.Lists.{first_given}
pub use Rattle.uvm_glob.specs.Names.{is_name, is_name_byte, name_faults}
unfoldable pub use Rattle.uvm_glob.specs.Names.{name_fault}
pub use Rattle.uvm_glob.specs.Orders.{down_cmp, order_of, up_cmp}
pub use Rattle.uvm_glob.specs.Parts.{after_first_fit, after_least, begins_with_star, fits, fits_at_end, is_star}
pub use Rattle.uvm_glob.specs.Paths.{between_dots, dotted, is_path, names_of, path_faults, path_text, size_fault}
unfoldable pub use Rattle.uvm_glob.specs.Paths.{path_fault}
pub use Rattle.uvm_glob.specs.Printed.{IsPrinted, NumbersArePrinted, is_printed_byte}
pub use Rattle.uvm_glob.specs.declared.faults.PathFault.TheVariants.{BadByte, Empty, TooDeep, TooLong}
pub use Rattle.uvm_glob.specs.declared.faults.PathFault.{PathFault}
pub use Rattle.uvm_glob.specs.declared.orders.Direction.TheVariants.{Down, Up}
pub use Rattle.uvm_glob.specs.declared.orders.Direction.{Direction}
