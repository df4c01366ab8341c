use borrow.Author.Rules.{rules}
use Rattle.fast_reader.proofs.plan_of.Goals as goal

pub returns-in-0 : goal.returns-in-0
returns-in-0 c = λ h. search rules

pub returns-in-1 : goal.returns-in-1
returns-in-1 c = λ h. search rules

pub returns-in-2 : goal.returns-in-2
returns-in-2 c = λ h. search rules

pub returns-in-3 : goal.returns-in-3
returns-in-3 c = λ h. search rules

pub returns-in-4 : goal.returns-in-4
returns-in-4 c = λ h. search rules

pub returns-in-5 : goal.returns-in-5
returns-in-5 c = λ h. search rules

pub returns-in-6 : goal.returns-in-6
returns-in-6 c = λ h. search rules

pub returns-in-7 : goal.returns-in-7
returns-in-7 c = λ h. search rules

pub returns-in-8 : goal.returns-in-8
returns-in-8 c = λ h. search rules

pub returns-in-9 : goal.returns-in-9
returns-in-9 c = λ h. search rules

pub returns-in-10 : goal.returns-in-10
returns-in-10 c = λ h. search rules

pub returns-in-11 : goal.returns-in-11
returns-in-11 c = λ h. search rules

pub returns-in-12 : goal.returns-in-12
returns-in-12 c = λ h. search rules

pub returns-in-13 : goal.returns-in-13
returns-in-13 c = λ h. search rules

pub returns-in-14 : goal.returns-in-14
returns-in-14 c = λ h. search rules

pub returns-in-16 : goal.returns-in-16
returns-in-16 c = λ h. search rules

pub returns-in-17 : goal.returns-in-17
returns-in-17 c = λ h. search rules

pub returns-in-18 : goal.returns-in-18
returns-in-18 c = λ h. search rules

pub returns-in-19 : goal.returns-in-19
returns-in-19 c = λ h. search rules

pub returns-in-20 : goal.returns-in-20
returns-in-20 c = λ h. search rules

pub returns-in-21 : goal.returns-in-21
returns-in-21 c = λ h. search rules

pub returns-in-22 : goal.returns-in-22
returns-in-22 c = λ h. search rules

pub returns-in-23 : goal.returns-in-23
returns-in-23 c = λ h. search rules

pub returns-in-24 : goal.returns-in-24
returns-in-24 c = λ h. search rules

pub returns-in-25 : goal.returns-in-25
returns-in-25 c = λ h. search rules

pub returns-in-26 : goal.returns-in-26
returns-in-26 c = λ h. search rules

pub returns-in-27 : goal.returns-in-27
returns-in-27 c = λ h. search rules

pub returns-in-28 : goal.returns-in-28
returns-in-28 c = λ h. search rules

pub returns-in-29 : goal.returns-in-29
returns-in-29 c = λ h. search rules

pub returns-in-30 : goal.returns-in-30
returns-in-30 c = λ h. search rules

pub returns-in-31 : goal.returns-in-31
returns-in-31 c = λ h. search rules

pub returns-in-32 : goal.returns-in-32
returns-in-32 c = λ h. search rules

pub returns-in-33 : goal.returns-in-33
returns-in-33 c = λ h. search rules

pub returns-in-34 : goal.returns-in-34
returns-in-34 c = λ h. search rules

pub returns-in-35 : goal.returns-in-35
returns-in-35 c = λ h. search rules

pub returns-in-36 : goal.returns-in-36
returns-in-36 c = λ h. search rules

pub returns-in-37 : goal.returns-in-37
returns-in-37 c = λ h. search rules

pub returns-in-39 : goal.returns-in-39
returns-in-39 c = λ h. search rules

pub returns-in-40 : goal.returns-in-40
returns-in-40 c = λ h. search rules

pub returns-in-41 : goal.returns-in-41
returns-in-41 c = λ h. search rules

pub returns-in-42 : goal.returns-in-42
returns-in-42 c = λ h. search rules

pub returns-in-43 : goal.returns-in-43
returns-in-43 c = λ h. search rules

pub returns-in-44 : goal.returns-in-44
returns-in-44 c = λ h. search rules

pub returns-in-45 : goal.returns-in-45
returns-in-45 c = λ h. search rules

pub returns-in-47 : goal.returns-in-47
returns-in-47 c = λ h. search rules

pub returns-in-48 : goal.returns-in-48
returns-in-48 c = λ h. search rules

pub returns-in-49 : goal.returns-in-49
returns-in-49 c = λ h. search rules

pub returns-in-50 : goal.returns-in-50
returns-in-50 c = λ h. search rules

pub returns-in-51 : goal.returns-in-51
returns-in-51 c = λ h. search rules

pub returns-in-52 : goal.returns-in-52
returns-in-52 c = λ h. search rules

pub returns-in-53 : goal.returns-in-53
returns-in-53 c = λ h. search rules

pub returns-in-55 : goal.returns-in-55
returns-in-55 c = λ h. search rules

pub returns-in-56 : goal.returns-in-56
returns-in-56 c = λ h. search rules

pub returns-in-57 : goal.returns-in-57
returns-in-57 c = λ h. search rules

pub returns-in-58 : goal.returns-in-58
returns-in-58 c = λ h. search rules

pub returns-in-59 : goal.returns-in-59
returns-in-59 c = λ h. search rules

pub returns-in-60 : goal.returns-in-60
returns-in-60 c = λ h. search rules

pub returns-in-61 : goal.returns-in-61
returns-in-61 c = λ h. search rules

pub returns-in-63 : goal.returns-in-63
returns-in-63 c = λ h. search rules

pub returns-in-64 : goal.returns-in-64
returns-in-64 c = λ h. search rules

pub returns-in-65 : goal.returns-in-65
returns-in-65 c = λ h. search rules

pub returns-in-66 : goal.returns-in-66
returns-in-66 c = λ h. search rules

pub returns-in-67 : goal.returns-in-67
returns-in-67 c = λ h. search rules

pub returns-in-68 : goal.returns-in-68
returns-in-68 c = λ h. search rules

pub returns-in-69 : goal.returns-in-69
returns-in-69 c = λ h. search rules

pub returns-in-70 : goal.returns-in-70
returns-in-70 c = λ h. search rules

pub returns-in-71 : goal.returns-in-71
returns-in-71 c = λ h. search rules

pub returns-in-72 : goal.returns-in-72
returns-in-72 c = λ h. search rules

pub returns-in-73 : goal.returns-in-73
returns-in-73 c = λ h. search rules

pub returns-in-74 : goal.returns-in-74
returns-in-74 c = λ h. search rules

pub returns-in-75 : goal.returns-in-75
returns-in-75 c = λ h. search rules

pub returns-in-76 : goal.returns-in-76
returns-in-76 c = λ h. search rules

pub returns-in-77 : goal.returns-in-77
returns-in-77 c = λ h. search rules

pub returns-in-78 : goal.returns-in-78
returns-in-78 c = λ h. search rules

pub returns-in-79 : goal.returns-in-79
returns-in-79 c = λ h. search rules

pub returns-in-80 : goal.returns-in-80
returns-in-80 c = λ h. search rules

pub returns-in-81 : goal.returns-in-81
returns-in-81 c = λ h. search rules

pub returns-in-82 : goal.returns-in-82
returns-in-82 c = λ h. search rules

pub returns-in-83 : goal.returns-in-83
returns-in-83 c = λ h. search rules

pub returns-in-84 : goal.returns-in-84
returns-in-84 c = λ h. search rules

pub returns-in-85 : goal.returns-in-85
returns-in-85 c = λ h. search rules

pub returns-in-86 : goal.returns-in-86
returns-in-86 c = λ h. search rules

pub returns-in-87 : goal.returns-in-87
returns-in-87 c = λ h. search rules

pub returns-in-88 : goal.returns-in-88
returns-in-88 c = λ h. search rules

pub returns-in-89 : goal.returns-in-89
returns-in-89 c = λ h. search rules

pub returns-in-90 : goal.returns-in-90
returns-in-90 c = λ h. search rules

pub returns-in-91 : goal.returns-in-91
returns-in-91 c = λ h. search rules

pub returns-in-92 : goal.returns-in-92
returns-in-92 c = λ h. search rules

pub returns-in-93 : goal.returns-in-93
returns-in-93 c = λ h. search rules

pub returns-in-94 : goal.returns-in-94
returns-in-94 c = λ h. search rules

pub returns-in-95 : goal.returns-in-95
returns-in-95 c = λ h. search rules

pub returns-in-112 : goal.returns-in-112
returns-in-112 c = λ h. search rules

pub returns-in-113 : goal.returns-in-113
returns-in-113 c = λ h. search rules

pub returns-in-114 : goal.returns-in-114
returns-in-114 c = λ h. search rules

pub returns-in-115 : goal.returns-in-115
returns-in-115 c = λ h. search rules

pub returns-in-116 : goal.returns-in-116
returns-in-116 c = λ h. search rules

pub returns-in-117 : goal.returns-in-117
returns-in-117 c = λ h. search rules

pub returns-in-118 : goal.returns-in-118
returns-in-118 c = λ h. search rules

pub returns-in-119 : goal.returns-in-119
returns-in-119 c = λ h. search rules

pub returns-in-120 : goal.returns-in-120
returns-in-120 c = λ h. search rules

pub returns-in-121 : goal.returns-in-121
returns-in-121 c = λ h. search rules

pub returns-in-122 : goal.returns-in-122
returns-in-122 c = λ h. search rules

pub returns-in-123 : goal.returns-in-123
returns-in-123 c = λ h. search rules

pub returns-in-124 : goal.returns-in-124
returns-in-124 c = λ h. search rules

pub returns-in-125 : goal.returns-in-125
returns-in-125 c = λ h. search rules

pub returns-in-126 : goal.returns-in-126
returns-in-126 c = λ h. search rules

pub returns-in-127 : goal.returns-in-127
returns-in-127 c = λ h. search rules

pub returns-in-128 : goal.returns-in-128
returns-in-128 c = λ h. search rules

pub returns-in-129 : goal.returns-in-129
returns-in-129 c = λ h. search rules

pub returns-in-131 : goal.returns-in-131
returns-in-131 c = λ h. search rules

pub returns-in-136 : goal.returns-in-136
returns-in-136 c = λ h. search rules

pub returns-in-137 : goal.returns-in-137
returns-in-137 c = λ h. search rules

pub returns-in-138 : goal.returns-in-138
returns-in-138 c = λ h. search rules

pub returns-in-139 : goal.returns-in-139
returns-in-139 c = λ h. search rules

pub returns-in-141 : goal.returns-in-141
returns-in-141 c = λ h. search rules

pub returns-in-143 : goal.returns-in-143
returns-in-143 c = λ h. search rules

pub returns-in-152 : goal.returns-in-152
returns-in-152 c = λ h. search rules

pub returns-in-153 : goal.returns-in-153
returns-in-153 c = λ h. search rules

pub returns-in-155 : goal.returns-in-155
returns-in-155 c = λ h. search rules

pub returns-in-156 : goal.returns-in-156
returns-in-156 c = λ h. search rules

pub returns-in-157 : goal.returns-in-157
returns-in-157 c = λ h. search rules

pub returns-in-158 : goal.returns-in-158
returns-in-158 c = λ h. search rules

pub returns-in-159 : goal.returns-in-159
returns-in-159 c = λ h. search rules

pub returns-in-164 : goal.returns-in-164
returns-in-164 c = λ h. search rules

pub returns-in-165 : goal.returns-in-165
returns-in-165 c = λ h. search rules

pub returns-in-166 : goal.returns-in-166
returns-in-166 c = λ h. search rules

pub returns-in-167 : goal.returns-in-167
returns-in-167 c = λ h. search rules

pub returns-in-168 : goal.returns-in-168
returns-in-168 c = λ h. search rules

pub returns-in-169 : goal.returns-in-169
returns-in-169 c = λ h. search rules

pub returns-in-170 : goal.returns-in-170
returns-in-170 c = λ h. search rules

pub returns-in-171 : goal.returns-in-171
returns-in-171 c = λ h. search rules

pub returns-in-172 : goal.returns-in-172
returns-in-172 c = λ h. search rules

pub returns-in-173 : goal.returns-in-173
returns-in-173 c = λ h. search rules

pub returns-in-174 : goal.returns-in-174
returns-in-174 c = λ h. search rules

pub returns-in-175 : goal.returns-in-175
returns-in-175 c = λ h. search rules

pub returns-in-176 : goal.returns-in-176
returns-in-176 c = λ h. search rules

pub returns-in-177 : goal.returns-in-177
returns-in-177 c = λ h. search rules

pub returns-in-178 : goal.returns-in-178
returns-in-178 c = λ h. search rules

pub returns-in-179 : goal.returns-in-179
returns-in-179 c = λ h. search rules

pub returns-in-180 : goal.returns-in-180
returns-in-180 c = λ h. search rules

pub returns-in-181 : goal.returns-in-181
returns-in-181 c = λ h. search rules

pub returns-in-182 : goal.returns-in-182
returns-in-182 c = λ h. search rules

pub returns-in-183 : goal.returns-in-183
returns-in-183 c = λ h. search rules

pub returns-in-184 : goal.returns-in-184
returns-in-184 c = λ h. search rules

pub returns-in-185 : goal.returns-in-185
returns-in-185 c = λ h. search rules

pub returns-in-186 : goal.returns-in-186
returns-in-186 c = λ h. search rules

pub returns-in-187 : goal.returns-in-187
returns-in-187 c = λ h. search rules

pub returns-in-188 : goal.returns-in-188
returns-in-188 c = λ h. search rules

pub returns-in-189 : goal.returns-in-189
returns-in-189 c = λ h. search rules

pub returns-in-190 : goal.returns-in-190
returns-in-190 c = λ h. search rules

pub returns-in-191 : goal.returns-in-191
returns-in-191 c = λ h. search rules

pub returns-in-194 : goal.returns-in-194
returns-in-194 c = λ h. search rules

pub returns-in-195 : goal.returns-in-195
returns-in-195 c = λ h. search rules

pub returns-in-196 : goal.returns-in-196
returns-in-196 c = λ h. search rules

pub returns-in-197 : goal.returns-in-197
returns-in-197 c = λ h. search rules

pub returns-in-198 : goal.returns-in-198
returns-in-198 c = λ h. search rules

pub returns-in-199 : goal.returns-in-199
returns-in-199 c = λ h. search rules

pub returns-in-204 : goal.returns-in-204
returns-in-204 c = λ h. search rules

pub returns-in-205 : goal.returns-in-205
returns-in-205 c = λ h. search rules

pub returns-in-206 : goal.returns-in-206
returns-in-206 c = λ h. search rules

pub returns-in-207 : goal.returns-in-207
returns-in-207 c = λ h. search rules

pub returns-in-208 : goal.returns-in-208
returns-in-208 c = λ h. search rules

pub returns-in-209 : goal.returns-in-209
returns-in-209 c = λ h. search rules

pub returns-in-210 : goal.returns-in-210
returns-in-210 c = λ h. search rules

pub returns-in-211 : goal.returns-in-211
returns-in-211 c = λ h. search rules

pub returns-in-214 : goal.returns-in-214
returns-in-214 c = λ h. search rules

pub returns-in-224 : goal.returns-in-224
returns-in-224 c = λ h. search rules

pub returns-in-225 : goal.returns-in-225
returns-in-225 c = λ h. search rules

pub returns-in-226 : goal.returns-in-226
returns-in-226 c = λ h. search rules

pub returns-in-227 : goal.returns-in-227
returns-in-227 c = λ h. search rules

pub returns-in-228 : goal.returns-in-228
returns-in-228 c = λ h. search rules

pub returns-in-229 : goal.returns-in-229
returns-in-229 c = λ h. search rules

pub returns-in-230 : goal.returns-in-230
returns-in-230 c = λ h. search rules

pub returns-in-231 : goal.returns-in-231
returns-in-231 c = λ h. search rules

pub returns-in-232 : goal.returns-in-232
returns-in-232 c = λ h. search rules

pub returns-in-233 : goal.returns-in-233
returns-in-233 c = λ h. search rules

pub returns-in-234 : goal.returns-in-234
returns-in-234 c = λ h. search rules

pub returns-in-235 : goal.returns-in-235
returns-in-235 c = λ h. search rules

pub returns-in-236 : goal.returns-in-236
returns-in-236 c = λ h. search rules

pub returns-in-237 : goal.returns-in-237
returns-in-237 c = λ h. search rules

pub returns-in-238 : goal.returns-in-238
returns-in-238 c = λ h. search rules

pub returns-in-239 : goal.returns-in-239
returns-in-239 c = λ h. search rules

pub returns-in-240 : goal.returns-in-240
returns-in-240 c = λ h. search rules

pub returns-in-244 : goal.returns-in-244
returns-in-244 c = λ h. search rules

pub returns-in-245 : goal.returns-in-245
returns-in-245 c = λ h. search rules

pub returns-in-246 : goal.returns-in-246
returns-in-246 c = λ h. search rules

pub returns-in-247 : goal.returns-in-247
returns-in-247 c = λ h. search rules

pub returns-in-248 : goal.returns-in-248
returns-in-248 c = λ h. search rules

pub returns-in-249 : goal.returns-in-249
returns-in-249 c = λ h. search rules

pub returns-in-250 : goal.returns-in-250
returns-in-250 c = λ h. search rules

pub returns-in-251 : goal.returns-in-251
returns-in-251 c = λ h. search rules

pub returns-in-252 : goal.returns-in-252
returns-in-252 c = λ h. search rules

pub returns-in-253 : goal.returns-in-253
returns-in-253 c = λ h. search rules

pub returns-in-254 : goal.returns-in-254
returns-in-254 c = λ h. search rules

pub returns-in-255 : goal.returns-in-255
returns-in-255 c = λ h. search rules
